use Rattle.std.proofs.Common.{◌≡◌, sym, true, false, List, ℕ, ◌≤◌, ◌<◌, arith}
use Rattle.tables.specs.Rows.{named}
use Rattle.tables.proofs.Tables.{replaced, inserted, sound-replaced, sound-inserted}
use Rattle.tables.proofs.Moves.{is-named, not_named, lifted-same, lifted-moved, words-there, words-new}
use Rattle.tables.proofs.insert.Goals as goal

pub returns-in-Ok : goal.returns-in-Ok
returns-in-Ok c = let a = c.args in
    let p = c.in-Ok.ensures in
    let j : ℕ = c.in-Ok.j in
    let w = a.w.now in
    let e : named w j a.n a.name ≡ true = sym p.found in
    let h = is-named w j a.n a.name e in
    let l : j < a.n = h.0 in
    let q = c.put.ensures in
    let s = words-there w _ a.n a.name j a.r p.place e q in
    record {
      few = omega arith;
      bindings = λ ls. replaced ls w j a.n a.name a.r (p.bindings ls _) _ l h.1 (omega arith) q;
      sound = λ ls g y s. sound-replaced ls w _ j a.n a.name a.r l (omega arith) q g y s;
      words = s.0;
      count = s.1;
    }

pub returns-in-Err : goal.returns-in-Err
returns-in-Err c = let a = c.args in
    let p = c.in-Err.ensures in
    let j : ℕ = c.in-Err.j in
    let w = a.w.now in
    let e : named w j a.n a.name ≡ false = sym p.found in
    let l : j ≤ a.n = p.within in
    let S = c.shift in
    let v : List ℕ = S.new.w in
    let k = S.auto.w in
    let q = c.put-in-Err.ensures in
    let s = words-new w v _ a.n a.name j a.r p.place e S.ensures q in
    record {
      few = omega arith;
      bindings = λ ls. inserted ls w j a.n a.name a.r (p.bindings ls _) v _ l (λ i. (let x = p.above i in let y = not_named w j a.n a.name e i in omega arith)) (omega arith) (λ i x. lifted-same w v j a.n i S.ensures x) (λ i x y. lifted-moved w v j a.n i S.ensures (omega arith) x y) q;
      sound = λ ls g y s. sound-inserted ls w v _ j a.n a.name a.r l (omega arith) (λ i x. lifted-same w v j a.n i S.ensures x) (λ i x y. lifted-moved w v j a.n i S.ensures (omega arith) x y) q g y s;
      words = s.0;
      count = s.1;
    }
