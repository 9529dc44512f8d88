-- A constructor pattern: the constructor's type opened, its result below the type that is wanted, the counts compared.
-- Assumes nothing.
use Rattle.std.proofs.Common.{◌≡◌, refl, sym, ap, ap₂, ◌∙◌, cond, List, [], ℕ, zero, suc, ◌+◌, ◌-◌, ◌≤◌, arith, eqb, length, take, drop, length-drop}
use mathlib.Core.Path.{subst⁻¹}
use Rattle.sizes.specs.Sizes.{most_nodes}
use Rattle.nodes.specs.Nodes.{Ty}
use Rattle.nodes.specs.Parts.{Whole}
use Rattle.nodes.specs.Lists.{All}
use Rattle.spelling.specs.declared.Triple.{Triple}
use Rattle.kinds.specs.Kinds.{parts_of}
use Rattle.sheet.specs.Plan.{nodes_of, Narrow}
use Rattle.sheet.specs.Rows.{rows, Ended}
use Rattle.judgment.specs.declared.TypeError.TheVariants.{ArityMismatch}
use Rattle.judgment.specs.Types.{Renaming, rename}
use Rattle.judgment.specs.Board.{sub, Rule, done, refuse, push}
use Rattle.judgment.specs.Rules.{Env, signature_from, extract_signature, pattern_parts}
use Rattle.operations.proofs.Then.{any_way}
use Rattle.operations.specs.declared.Run.{Run}
use Rattle.operations.specs.State.{Came, came_to, perform_c, PerformsOnBoard}
use Rattle.constructors.specs.declared.Opened.{Opened}
use Rattle.constructors.specs.Opening.{opened_of, Opens, open_lines}
use Rattle.constructors.proofs.Openings.{nodes-of-lines, cut-cut, take_whole, part-all, part-narrow, nodes-cut, after-drop, names-few, part-opened}
use Rattle.references.specs.declared.TypeRef.{TypeRef}
use Rattle.references.specs.declared.Ending.{Ending}
use Rattle.references.specs.Signatures.{params, result, ending_of}
use Rattle.references.specs.References.{opened_at, type_of, pending_of, TypeLine, Good}
use Rattle.references.proofs.Signs.{signature-is, few-params}
use Rattle.references.proofs.Cuts.{length-rename, params-rename, result-rename}
use Rattle.references.proofs.Arrows.{front-whole}
use Rattle.references.proofs.Parts.{type-is, pending-is, lines_are}
use Rattle.patterns.specs.Turns.{Ready, Turn}
use Rattle.patterns.specs.Readings.{Arity, body_of, PartsAsk, Parting}

-- what is meant ends within the type's lines; an unknown alone is one node
pub good-within : {ls : List Triple} {r : TypeRef} → Good ls r → (r.at + r.count ≤ r.lines + 1) × (r.at + r.count ≤ most_nodes)
good-within {ls} {r} g = by r.lines refl
  where
    by : (n : ℕ) → r.lines ≡ n → (r.at + r.count ≤ r.lines + 1) × (r.at + r.count ≤ most_nodes)
    by zero e = let a = g.alone e in (omega arith, omega arith)
    by (suc n) e = let w = g.within (omega arith) in let f = g.few in (omega arith, omega arith)

pub good-fits : {ls : List Triple} {r : TypeRef} → Good ls r → r.at + r.count ≤ most_nodes
good-fits g = (good-within g).1

module _ {b : List ℕ} {c : Run} (d : List ℕ) (first n count : ℕ) (want : TypeRef) {l₀ r₀ : List ℕ} (ask : PartsAsk b c (rows d) first n count want l₀ r₀)
    {b₁ : List ℕ} {o : Opened} (O : Opens b c (nodes_of (take n (drop first (rows d)))) b₁ o) where
  abbrev ls : List Triple
  ls = rows d

  abbrev T : Ty
  T = nodes_of (take n (drop first ls))

  abbrev nodes : ℕ
  nodes = n - o.names

  abbrev X : Ty
  X = opened_of T c.counters.fresh

  abbrev M : Renaming
  M = opened_at T c.counters.fresh

  -- the lines behind the quantifiers
  abbrev U : Ty
  U = nodes_of (take nodes (drop (first + o.names) ls))

  abbrev body : TypeRef
  body = body_of first n nodes c.counters.fresh

  pub few : o.names ≤ n
  few = names-few d first n ask.lines O.names

  at_body : n - nodes ≡ o.names
  at_body = let f = few in omega arith

  pub left-whole : (first + o.names + nodes ≤ length ls) × All TypeLine (take nodes (drop (first + o.names) ls)) × Whole parts_of (take nodes (drop (first + o.names) ls)) 1
  left-whole =
      let f = few in
      let s = ask.lines in
      (omega arith, part-all TypeLine ls first n ask.types o.names nodes (omega arith), front-whole ls first n o.names ask.lines ask.types ask.whole O.names few)

  pub opened-ready : Ready b₁ o.run
  opened-ready = record { board = O.named.stacked; numbers = O.named.numbers ask.ready.numbers }

  body-good : Good ls body
  body-good =
      let f = few in
      let m = ask.some in
      record {
        stands = ask.lines;
        narrow = ask.narrow;
        types = ask.types;
        few = ask.few;
        within = λ _. omega arith;
        whole = λ _. subst⁻¹ (λ (i : ℕ). Whole parts_of (take nodes (drop (first + i) ls)) 1) at_body left-whole.2;
        declared = λ _. ask.declared;
        low = ask.ready.numbers;
        alone = λ z. absurd (omega arith);
      }

  -- the reference to it stands for it
  body_is : type_of ls body ≡ X
  body_is =
      let f = few in
      let a : length T ≡ n = nodes-of-lines ls first n ask.lines in
      let l : length (drop o.names T) ≡ length T - o.names = length-drop o.names T in
      type-is ls body ask.some
      ∙ ap (λ (i : ℕ). rename M (take nodes (drop i T))) at_body
      ∙ ap (rename M) (take_whole (drop o.names T) nodes (omega arith) ∙ ap (λ (i : ℕ). drop i T) O.names ∙ sym (after-drop T))

  renamed : X ≡ rename M U
  renamed = sym body_is ∙ type-is ls body ask.some ∙ ap (rename M) (lines_are ls body body-good ask.some ∙ ap (λ (i : ℕ). nodes_of (take nodes (drop (first + i) ls))) at_body)

  length_X : length X ≡ nodes
  length_X = ap length renamed ∙ length-rename M U ∙ nodes-of-lines ls (first + o.names) nodes left-whole.0

  pending-body : pending_of ls body ≡ params nodes X
  pending-body = pending-is ls body ask.some ∙ ap (params nodes) body_is

  -- its parameters are counted, and its result is found, on the lines
  module _ (e : Ending) (sign : e ≡ ending_of nodes U) where
    pub arity-is : e.arity ≡ length (params nodes X)
    arity-is = ap (λ (x : Ending). x.arity) sign ∙ sym (params-rename M nodes U) ∙ ap (λ (t : Ty). length (params nodes t)) (sym renamed)

    pub few-arity : e.arity ≤ most_nodes
    few-arity = let f = few-params nodes X in let a = arity-is in let m = ask.few in omega arith

    module _ (E : Ended d) (short : e.start ≤ nodes) (found : nodes_of (take (nodes - e.start) (drop (first + o.names + e.start) ls)) ≡ result nodes U) where
      pub result_fits : (first + (o.names + e.start) + (nodes - e.start) ≤ length ls) × All Narrow (take (nodes - e.start) (drop (first + (o.names + e.start)) ls))
      result_fits =
          let f = few in
          let s = ask.lines in
          (omega arith, part-narrow ls first n ask.narrow (o.names + e.start) (nodes - e.start) (omega arith))

      pub result-is : open_lines d c.counters.fresh (first + (o.names + e.start)) (nodes - e.start) ≡ result nodes X
      result-is =
          let f = few in
          let D = ask.declared in
          let z : first + (o.names + e.start) ≡ first + o.names + e.start = omega arith in
          part-opened d first n ask.lines (E.bound D.name first n D.found) c.counters.fresh (o.names + e.start) (nodes - e.start) (omega arith)
          ∙ ap (rename M) (nodes-cut (take n (drop first ls)) (o.names + e.start) (nodes - e.start) ∙ ap nodes_of (cut-cut ls first n (o.names + e.start) (nodes - e.start) (omega arith) ∙ ap (λ (i : ℕ). take (nodes - e.start) (drop i ls)) z) ∙ found)
          ∙ sym (result-rename M nodes U)
          ∙ ap (result nodes) (sym renamed)

  module _ (arity : ℕ) (a : arity ≡ length (params nodes X)) (t u : Ty) (e : t ≡ result nodes X) (same : u ≡ type_of ls want)
      {b₂ : List ℕ} {c₂ c₃ : Run} (P : PerformsOnBoard b₁ o.run (λ _. push (sub t u) done) b₂ c₂)
      (A : Arity ls b₂ c₂ arity count c₃) (pushed : c₂.counters.taken ≡ o.run.counters.taken) where
    parts-turn : (E : Env) → Turn {A = List Ty} ls b c (λ f. extract_signature T (pattern_parts E count (type_of ls want) f)) b₂ c₃ (λ f. f (pending_of ls body))
    parts-turn E = record {
      ready = A.ready;
      taken = A.taken ∙ pushed ∙ O.named.taken;
      kept = λ k z. A.kept k (P any_way ls k [] (O.named.kept k z)).kept;
      outcome = λ w k rep z f.
          let d = P w ls k rep (O.named.kept k z) in
          let ps : List Ty = params nodes X in
          let F : List Ty → Ty → Rule = pattern_parts E count (type_of ls want) f in
          let o₁ : Came = came_to ls b₁ k rep o.run in
          ap (λ (qs : List Ty). perform_c w ls (f qs) (came_to ls b₂ k rep c₃)) pending-body
          ∙ A.outcome w k rep d.kept (λ _. f ps)
          ∙ ap (λ (i : ℕ). perform_c w ls (cond (eqb count i) (f ps) (refuse (ArityMismatch i count) [])) (came_to ls b₂ k rep c₂)) a
          ∙ ap (perform_c w ls (cond (eqb count (length ps)) (f ps) (refuse (ArityMismatch (length ps) count) []))) (d.outcome ∙ ap₂ (λ (x y : Ty). perform_c w ls (push (sub x y) done) o₁) e same)
          ∙ ap (λ (q : Rule). perform_c w ls q o₁) (sym (ap (λ (i : ℕ). signature_from i [] X F) length_X ∙ signature-is nodes [] X F))
          ∙ O.outcome w k rep z (λ t. signature_from (length t) [] t F) ls;
    }

    pub parting : Parting b c ls first n count (type_of ls want) b₂ (record { run = c₃; nodes = nodes; arity = arity })
    parting = record {
      nodes = (let f = few in omega arith);
      good = body-good;
      arity = a ∙ ap length (sym pending-body);
      turn = parts-turn;
    }
