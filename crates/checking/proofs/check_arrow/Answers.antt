use Rattle.std.proofs.Common.{◌≡◌, sym, ap, ◌∙◌, List, ℕ, ◌+◌, ◌-◌, ◌<◌, arith, rules}
use Rattle.nodes.specs.Nodes.{nodes_at}
use Rattle.judgment.specs.Rules.{Env}
use Rattle.judgment.specs.Result.{Way}
use Rattle.board.specs.Board.{term_at}
use Rattle.sheet.specs.Rows.{rows}
use Rattle.operations.specs.State.{WellFormed}
use Rattle.operations.proofs.Then.{does-as}
use Rattle.core_types.proofs.Walks.{first-within}
use Rattle.checking.proofs.Checks.{head-is, name-narrow}
use Rattle.checking.proofs.Rooms.{line-bounds, lambda-lines, fit-rooms, full-rooms, here-asks, here-rule, copied-rule, lambda-asks}
use Rattle.spelling.specs.declared.Triple.{Triple}
use Rattle.board.proofs.Terms.{line_of}
use Rattle.checking.proofs.check_arrow.Goals.{After-triple_at-name}
use Rattle.checking.proofs.check_arrow.Goals as goal

-- the head is that of the Lambda's line
head : (c : After-triple_at-name) → c.triple_at-name.result ≡ line_of (rows c.args.s.now) c.args.line
head c = head-is c.args.s.now c.args.line c.wide-row.result c.triple_at-name.result c.wide-row.ensures c.triple_at-name.ensures

is_lambda : (c : After-triple_at-name) → c.triple_at-name.result.kind ≡ 23
is_lambda c = ap (λ (x : Triple). x.kind) (head c) ∙ c.requires.2

pub overflow_cast-name : goal.overflow_cast-name
overflow_cast-name c = let h = (goal.at.overflow_cast-name c).After-triple_at-name in
    let v : c.triple_at-name.result.value < 4294967296 = name-narrow c.requires.0 (head h) (is_lambda h) in
    search rules

pub overflow_sub-n : goal.overflow_sub-n
overflow_sub-n c = let h = (goal.at.overflow_sub-n c).After-triple_at-name in
    (line-bounds c.requires.0 c.wide-row.ensures (head h) c.part_line-body.ensures (is_lambda h)).0

pub overflow_sub-more : goal.overflow_sub-more
overflow_sub-more c = first-within c.args.board.now (c.args.at + 2) (c.args.tn - 1) c.first_part-m.result c.first_part-m.ensures

pub overflow_cast-next : goal.overflow_cast-next
overflow_cast-next c = let h = (goal.at.overflow_cast-next c).After-triple_at-name in
    let x = (line-bounds c.requires.0 c.wide-row.ensures (head h) c.part_line-body.ensures (is_lambda h)).1 in
    omega arith

pub all_fit-requires : goal.all_fit-requires
all_fit-requires c = let h = (goal.at.all_fit-requires c).After-triple_at-name in
    let x = (line-bounds c.requires.0 c.wide-row.ensures (head h) c.part_line-body.ensures (is_lambda h)).1 in
    (omega arith, c.requires.0.short, c.requires.1)

pub check_lambda_here-requires : goal.check_lambda_here-requires
check_lambda_here-requires c = let h = (goal.at.check_lambda_here-requires c).After-triple_at-name in
    here-asks c.requires.0 c.wide-row.ensures (head h) c.part_line-body.ensures (is_lambda h) c.requires.1 c.first_part-m.ensures (sym c.all_fit.ensures ∙ c.if-all_fit.true)

pub returns-then-all_fit : goal.returns-then-all_fit
returns-then-all_fit c = let h = (goal.at.returns-then-all_fit c).After-triple_at-name in
    let p = c.requires.0 in
    let W = c.wide-row.ensures in
    let q = c.part_line-body.ensures in
    let k = is_lambda h in
    let r = fit-rooms p W (head h) q k (sym c.all_fit.ensures ∙ c.if-all_fit.true) in (
      λ (w : Way) (E : Env) (k' rep : List ℕ) (f : WellFormed c.args.board.now k' c.args.c).
          does-as (λ _. here-rule p W (head h) q k c.requires.1 c.first_part-m.ensures E) (c.check_lambda_here.ensures w E (term_at (rows c.args.s.now) c.args.line) (nodes_at c.args.board.now c.args.at c.args.tn) k' rep f),
      r.0,
      r.1,
    )

pub check_lambda-requires : goal.check_lambda-requires
check_lambda-requires c = let h = (goal.at.check_lambda-requires c).After-triple_at-name in
    let p = c.requires.0 in
    let W = c.wide-row.ensures in
    let q = c.part_line-body.ensures in
    let k = is_lambda h in
    let x = lambda-asks p W (head h) q k c.requires.1 c.first_part-m.ensures c.copy_nodes.ensures in
    (p.board, x.0, x.1, lambda-lines p W (head h) q k, p.formed)

pub returns : goal.returns
returns c = let h = (goal.at.returns c).After-triple_at-name in
    let p = c.requires.0 in
    let W = c.wide-row.ensures in
    let q = c.part_line-body.ensures in
    let k = is_lambda h in
    let r = full-rooms p W (head h) q k (sym c.all_fit.ensures ∙ c.if-all_fit.false) c.copy_nodes.ensures c.check_lambda.ensures.0 in (
      λ (w : Way) (E : Env) (k' rep : List ℕ) (f : WellFormed c.args.board.now k' c.args.c).
          does-as (λ _. copied-rule p W (head h) q k c.requires.1 c.first_part-m.ensures E c.copy_nodes.ensures) (c.check_lambda.ensures.1 w E (term_at (rows c.args.s.now) c.args.line) (nodes_at c.args.board.now c.args.at c.args.tn) k' rep f),
      r.0,
      r.1,
    )
