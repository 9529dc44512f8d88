-- A sheet that is taken, and its rows: what is known of the one is known of the other. Assumes nothing.
use Rattle.std.proofs.Common.{Ok, ◌≡◌, List, ℕ, ◌/◌, ◌≤◌, arith, length, drop}
use mathlib.Core.Path.{subst⁻¹}
use Rattle.sizes.specs.Sizes.{line_length, most_lines}
use Rattle.spelling.specs.declared.Triple.{Triple}
use Rattle.grammar.specs.Check.{check}
use Rattle.sheet.specs.Plan.{places_of, plan_of}
use Rattle.sheet.specs.Rows.{rows, Ended}
use Rattle.sheet.specs.Used.{SmallNames}
use Rattle.sheet.specs.Form.{Formed}
use Rattle.sheet.proofs.Lines.{length-triples}
use Rattle.sheet.proofs.Ranges.{plan-few, term-names}
use Rattle.sheet.proofs.Formed.{formed}
use Rattle.judgment.specs.Board.{chk}
use Rattle.judgment.specs.Result.{env_of}
use Rattle.judgment.specs.Good.{EntryWhole}
use Rattle.judgment.proofs.WholeRun.{EnvWhole, plan-whole}
use Rattle.judgment.proofs.Plans.{GoodPlan, sheet-plan}
use Rattle.judgment.proofs.Short.{two-lines}
use Rattle.stepping.specs.Stepping.{Read}

-- at most 2,000 lines
pub plan-lines : (s : List ℕ) → check s ≡ Ok tt → length s / line_length ≤ most_lines
plan-lines s e = let n = length-triples s in let m = plan-few s e in omega arith

module _ {d : List ℕ} (h : Read d) where
  pub read-few : length (rows d) ≤ most_lines
  read-few =
      let n = length-triples h.sheet in
      let m = plan-lines h.sheet h.plan in
      rw h.same (omega arith)

  pub read_some : 2 ≤ length (rows d)
  read_some = rw h.same (two-lines h.sheet h.plan)

  pub read-formed : Formed (rows d)
  read-formed = subst⁻¹ Formed h.same (formed h.sheet h.plan)

  -- what reading its plain mark asks
  pub read_names : Ended d × SmallNames (drop (places_of (rows d)).term (rows d))
  read_names = (h.ended, term-names (rows d) read-formed)

  pub read-good : GoodPlan ⊥ (plan_of (rows d))
  read-good = subst⁻¹ (λ (ls : List Triple). GoodPlan ⊥ (plan_of ls)) h.same (sheet-plan h.sheet h.plan)

  pub read_whole : (let p = plan_of (rows d) in EnvWhole (env_of p) × EntryWhole (chk p.term p.expected))
  read_whole = subst⁻¹ (λ (ls : List Triple). (let p = plan_of ls in EnvWhole (env_of p) × EntryWhole (chk p.term p.expected))) h.same (plan-whole h.sheet h.plan)
