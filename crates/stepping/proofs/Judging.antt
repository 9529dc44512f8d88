-- The rule of a taken entry, by what the entry is. Assumes nothing.
use Rattle.std.proofs.Common.{◌≡◌, refl, sym, ap, ap₂, ◌∙◌, subst, ◌≢◌, Bool, true, false, cond, List, [], ℕ, ◌+◌, ◌*◌, ◌≤◌, ◌<◌, arith, eqb, ltb, length, drop_of_length-le, ne_eqb, ltb-true, ltb-false}
use Rattle.std.proofs.lemmas.List.Edits.{sets}
use Rattle.nodes.specs.Nodes.{node, Ty, words, nodes_at}
use Rattle.nodes.specs.Parts.{take_parts}
use Rattle.nodes.proofs.PartLaws.{take_all}
use Rattle.nodes.proofs.Laws.{length-nodes_at}
use Rattle.spelling.specs.declared.Triple.{Triple}
use Rattle.kinds.specs.declared.Sort.{Sort}
use Rattle.kinds.specs.Kinds.{a_term, parts_of}
use Rattle.sheet.specs.Rows.{rows}
use Rattle.sheet.specs.Form.{IsPart}
use Rattle.judgment.specs.Types.{view}
use Rattle.judgment.specs.Terms.{term_view, lambda_of}
use Rattle.judgment.specs.Solutions.{write_out}
use Rattle.judgment.specs.Board.{tvar, var, sub, inf, chk, inf_app, done}
use Rattle.judgment.specs.Short.{EntryShort}
use Rattle.judgment.proofs.Short.{FoundShort, find_var-short}
use Rattle.judgment.specs.Rules.{Env, infer_by, check_by, rule}
use Rattle.judgment.specs.Result.{Way}
use Rattle.board.specs.declared.Top.{Top}
use Rattle.board.specs.Board.{term_at, entry_of, entries_of}
use Rattle.book.specs.Book.{sols}
use Rattle.operations.specs.declared.Run.{Run}
use Rattle.operations.specs.State.{Does}
use Rattle.operations.proofs.Then.{does-as}
use Rattle.inference.proofs.Written.{copied}
use Rattle.subtyping.specs.Subtyping.{Sound, subtype_report, SubtypeAsk}
use Rattle.checking.specs.Checking.{checked_type, checked_out, CheckAsk}
use Rattle.applying.specs.Applying.{app_report, VarsFit}
use Rattle.inferring.specs.Inferring.{InferAsk}
use Rattle.inferring.specs.Rooms.{Scratch, scratch, infer_scratch}
use Rattle.stepping.specs.Rooms.{room, judged_room}
use Rattle.stepping.specs.Stepping.{longest, top_entry, EntrySound, JudgeAsk}
use Rattle.stepping.proofs.Reading.{read-few, read-formed}

-- a part that is there stands on a line
pub part-stands : (x : Sort) (ls : List Triple) (p : ℕ) → IsPart x (term_at ls p).lines → p < length ls
unfolding term_at
part-stands x ls p h = go (ltb p (length ls)) refl
  where
    go : (b : Bool) → ltb p (length ls) ≡ b → p < length ls
    go true e = ltb-true p (length ls) e
    go false e = absurd (subst (IsPart x) (ap (λ (xs : List Triple). take_parts parts_of xs 1) (drop_of_length-le ls (ltb-false p (length ls) e)) ∙ take_all parts_of [] 1 (omega arith)) h)

-- ---- what an entry is
module _ (ls : List Triple) (n : ℕ) (t u : Ty) where
  pub is-sub : (k : ℕ) → k ≡ 3 → entry_of ls k n t u ≡ sub t u
  unfolding entry_of
  is-sub k e = rw e refl

  pub is-inf : (k : ℕ) → k ≡ 4 → entry_of ls k n t u ≡ inf (term_at ls n) t
  unfolding entry_of
  is-inf k e = rw e refl

  pub is-chk : (k : ℕ) → k ≡ 5 → entry_of ls k n t u ≡ chk (term_at ls n) t
  unfolding entry_of
  is-chk k e = rw e refl

  pub is-app : (k : ℕ) → k ≡ 6 → entry_of ls k n t u ≡ inf_app t (term_at ls n) u
  unfolding entry_of
  is-app k e = rw e refl

  -- a TVar or a Var
  pub is-other : (E : Env) (k : ℕ) → k ≢ 3 → k ≢ 4 → k ≢ 5 → k ≢ 6 → done ≡ rule E (entry_of ls k n t u)
  unfolding entry_of
  is-other E k a b c d = rw (ne_eqb k 3 a, ne_eqb k 4 b, ne_eqb k 5 c, ne_eqb k 6 d) (go (eqb k 2))
    where
      go : (x : Bool) → done ≡ rule E (cond x (var n t) (tvar (node k n)))
      go true = refl
      go false = refl

module _ {m : ℕ} {s b k rep : List ℕ} {c : Run} {o : Top} {t l r w v : List ℕ} (a : JudgeAsk m s b k rep c o t l r w v) where
  abbrev ls : List Triple
  ls = rows s

  pub within-board : o.at + 2 * (o.left + o.right) ≤ length b
  within-board = let x = a.within in let y = a.formed.board.room in omega arith

  -- the type of an Inf and of a Chk
  pub inf-short : o.kind ≡ 4 → o.left ≤ longest m s
  inf-short e = omega (arith, (subst (EntryShort (longest m s)) (is-inf ls o.number _ _ o.kind e) a.short).1, length-nodes_at b o.at o.left)

  pub chk-short : o.kind ≡ 5 → o.left ≤ longest m s
  chk-short e = omega (arith, (subst (EntryShort (longest m s)) (is-chk ls o.number _ _ o.kind e) a.short).1, length-nodes_at b o.at o.left)

  pub copy-asks : o.left ≤ longest m s → (0 + 2 * o.left ≤ length t) × (o.at + 2 * o.left ≤ length b)
  copy-asks h =
      let y = a.lent.type in
      let z = within-board in
      (omega arith, omega arith)

  vars-fit : VarsFit b c s l
  vars-fit x u e =
      let f = subst (FoundShort (longest m s)) e (find_var-short (longest m s) x (entries_of ls b c.counters.board.entries) a.others) in
      let y = a.lent.left in
      omega (arith, f)

  two-sound : Sound c.counters.fresh (nodes_at b o.at o.left) × Sound c.counters.fresh (nodes_at b (o.at + 2 * o.left) o.right) → SubtypeAsk b k rep c o.at o.left o.right m
  two-sound q = record {
    formed = a.formed;
    within = within-board;
    limit = a.limit;
    report = a.report;
    left = q.0;
    right = q.1;
    solutions = a.solutions;
  }

  pub subtype-asks : o.kind ≡ 3 → SubtypeAsk b k rep c o.at o.left o.right m
  subtype-asks e = two-sound (subst (EntrySound c.counters.fresh) (is-sub ls o.number _ _ o.kind e) a.entry)

  pub app-asks : o.kind ≡ 6 → SubtypeAsk b k rep c o.at o.left o.right m
  app-asks e = two-sound (subst (EntrySound c.counters.fresh) (is-app ls o.number _ _ o.kind e) a.entry)

  pub infer-asks : o.kind ≡ 4 → (t' : List ℕ) → length t' ≡ length t → InferAsk b c s o.number t' o.left l
  infer-asks e t' q =
      let h = subst (EntrySound c.counters.fresh) (is-inf ls o.number _ _ o.kind e) a.entry in
      let n = read-few a.plan in
      record {
        formed = (k, a.formed);
        ready = record { board = a.formed.board; numbers = a.formed.numbers };
        sheet = read-formed a.plan;
        ended = a.plan.ended;
        few = n;
        stands = part-stands a_term ls o.number h;
        term = h;
        within = let x = (copy-asks (inf-short e)).0 in omega arith;
        left = a.lent.lines;
        vars = vars-fit;
      }

  pub check-asks : o.kind ≡ 5 → CheckAsk b c s o.number o.at o.left t l
  check-asks e =
      let h = subst (EntrySound c.counters.fresh) (is-chk ls o.number _ _ o.kind e) a.entry in
      let n = read-few a.plan in
      let g = a.lent.lines in
      record {
        formed = (k, a.formed);
        board = a.formed.board;
        ended = a.plan.ended;
        stands = part-stands a_term ls o.number h;
        few = n;
        term = h;
        place = a.place;
        within = (copy-asks (chk-short e)).1;
        short = let x = a.few in omega arith;
        type = let x = (copy-asks (chk-short e)).0 in omega arith;
        room = omega arith;
      }

  -- the room after a Sub, an InfApp, a TVar or a Var
  pub sub-room : o.kind ≡ 3 → {rep' : List ℕ} → rep' ≡ subtype_report rep c (write_out (sols k) (nodes_at b o.at o.left)) (write_out (sols k) (nodes_at b (o.at + 2 * o.left) o.right)) m
      → room rep' t l r w v ≡ judged_room m s b k c o (room rep t l r w v)
  unfolding judged_room
  sub-room h q = rw (h, q) refl

  pub app-room : o.kind ≡ 6 → {rep' : List ℕ} → rep' ≡ app_report rep c (write_out (sols k) (nodes_at b o.at o.left)) (write_out (sols k) (nodes_at b (o.at + 2 * o.left) o.right)) m
      → room rep' t l r w v ≡ judged_room m s b k c o (room rep t l r w v)
  unfolding judged_room
  app-room h q = rw (h, q) refl

  pub other-room : o.kind ≢ 3 → o.kind ≢ 4 → o.kind ≢ 5 → o.kind ≢ 6 → room rep t l r w v ≡ judged_room m s b k c o (room rep t l r w v)
  unfolding judged_room
  other-room e f g h = rw (ne_eqb o.kind 3 e, ne_eqb o.kind 4 f, ne_eqb o.kind 5 g, ne_eqb o.kind 6 h) refl

  -- the rule of an Inf on a copy of the taken type is that of the entry
  module _ {t' : List ℕ} (e : t' ≡ sets t 0 (words (nodes_at b o.at o.left))) where
    same-type : o.left ≤ longest m s → nodes_at t' 0 o.left ≡ nodes_at b o.at o.left
    same-type h = copied t (nodes_at b o.at o.left) o.left (length-nodes_at b o.at o.left) (let x = (copy-asks h).0 in omega arith) e

    pub inferred : (E : Env) {x : Way} {b' k' rep' : List ℕ} {q : Run} → o.kind ≡ 4 → Does x ls b k rep c (infer_by E (nodes_at t' 0 o.left) (term_view (term_at ls o.number))) b' k' rep' q → Does x ls b k rep c (rule E (top_entry ls b o)) b' k' rep' q
    inferred E h = does-as (λ _. ap (λ (X : Ty). infer_by E X (term_view (term_at ls o.number))) (same-type (inf-short h)) ∙ ap (rule E) (sym (is-inf ls o.number _ _ o.kind h)))

    pub inferred-room : o.kind ≡ 4 → {l' r' w' v' : List ℕ} → scratch l' r' w' v' ≡ infer_scratch b c s o.number (nodes_at t' 0 o.left) (scratch l r w v)
        → room rep t' l' r' w' v' ≡ judged_room m s b k c o (room rep t l r w v)
    unfolding judged_room
    inferred-room h q = rw h (ap₂ (λ (y : List ℕ) (z : Scratch). record { report = rep; type = y; scratch = z }) e (q ∙ ap (λ (X : Ty). infer_scratch b c s o.number X (scratch l r w v)) (same-type (inf-short h))))

  -- the rule of a Chk
  pub checked-room : o.kind ≡ 5 → {t' l' : List ℕ} → (let T = nodes_at b o.at o.left in let f = lambda_of (term_at ls o.number) in
      t' ≡ checked_type t c T f (view T) → l' ≡ checked_out l c T f (view T) → room rep t' l' r w v ≡ judged_room m s b k c o (room rep t l r w v))
  unfolding judged_room
  checked-room h p q = rw h (ap₂ (λ (y z : List ℕ). room rep y z r w v) p q)

  pub checked : (E : Env) {x : Way} {b' k' rep' : List ℕ} {q : Run} → o.kind ≡ 5 → Does x ls b k rep c (check_by E (term_at ls o.number) (nodes_at b o.at o.left) (view (nodes_at b o.at o.left))) b' k' rep' q → Does x ls b k rep c (rule E (top_entry ls b o)) b' k' rep' q
  checked E h = does-as (λ _. ap (rule E) (sym (is-chk ls o.number _ _ o.kind h)))
