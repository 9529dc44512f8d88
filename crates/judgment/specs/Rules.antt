-- The judgment rules, written from the papers with the differences that docs/DIFFERENCES.md lists, each with a plan. DK is Dunfield and
-- Krishnaswami 2013; the worklist is the paper of 2019's (Zhao, Oliveira and Schrijvers). In every difference the Rust decides: these are the
-- functions of `worklist.rs` that `check_type` reaches, in the Rust's order of pushes, fresh numbers, solutions and tests. At each rule stands its
-- name in DK, or "papers silent". Both papers are meant as their published rules are known: the texts were not at hand. Assumes nothing.
use Rattle.std.specs.Prelude.{ℕ, zero, suc, cond, List, [], ◌∷◌, ◌++◌, eqb, leb, ltb, length, Option, None, Some}
use Rattle.nodes.specs.Nodes.{node, Ty}
use Rattle.spelling.specs.declared.Triple.{Triple}
use Rattle.sheet.specs.Plan.{◌∶◌, Bindings, lookup}
use Rattle.judgment.specs.declared.TypeError.TheVariants.{UnboundVariable, UnboundDataConstructor, NotAFunction, ArityMismatch, SubtypingError, InstantiationError, IntrinsicArityMismatch, UnknownIntrinsic}
use Rattle.judgment.specs.Types.{unknown, con, arrow, app, forall, Int, BoolT, UnitT, eq_ty, View, is_arrow, is_app, is_forall, is_unknown, is_other, view, occurs, is_monotype, substitute, Renaming, rename, front_names, after_front}
use Rattle.judgment.specs.Terms.{Term, part, after_parts, Lambda, lambda_of, TermView, is_var, is_lit_int, is_lambda, is_apply, is_type_lambda, is_constructor, is_case, is_bin_op, is_if, is_intrinsic, is_none, term_view, PatternView, is_wildcard, is_pattern_var, is_pattern_constructor, pattern_view}
use Rattle.judgment.specs.Board.{Entry, tvar, var, sub, inf, chk, inf_app, find_var, before, own, universal, splits, Rule, done, refuse, fresh, push, solve, zonk, look, ◌>>=◌, ◌>>◌}

-- data constructors and context variables
pub record Env : Type 0 where
  pub constructors : Bindings
  pub context : Bindings

-- `fresh_evar` and the TVar of it
abbrev pub fresh_unknown : (ℕ → Rule) → Rule
fresh_unknown f = do
  a ← fresh own
  push (tvar (node 17 a))
  f a

---------------------------------------------------------------- instantiate_left, instantiate_right
pub data Side : Type 0 where
  left right : Side

-- the comparison with an unknown on the side of the one that it is split from, and on the other side
abbrev pub on_side : Side → Ty → Ty → Entry
on_side left u t = sub u t
on_side right u t = sub t u

abbrev pub off_side : Side → Ty → Ty → Entry
off_side left u t = sub t u
off_side right u t = sub u t

-- InstLAllR opens with a fresh universal, InstRAllL with a fresh unknown
abbrev pub open_body : Side → ℕ → Ty → (Ty → Rule) → Rule
open_body left x b f = do
  u ← fresh universal
  push (tvar (node 18 u))
  f (substitute x (node 18 u) b)
open_body right x b f = do
  a ← fresh own
  push (tvar (node 17 a))  -- the marker
  push (tvar (node 17 a))
  f (substitute x (node 17 a) b)

-- InstLSolve, InstRSolve. DK asks that the solution be well formed to the left of the unknown; the Rust does not, and the strict call asks it of
-- the universals in it, by levels.
abbrev pub solve_monotype : ℕ → Ty → Rule
solve_monotype k t = cond (is_monotype t) (solve k t done) (refuse (InstantiationError k (length t)) t)

abbrev pub instantiate_by : Side → ℕ → Ty → (Ty → Rule) → View → Rule
-- InstLReach, InstRReach: the newer of two unknowns is solved by the older, where both stand on the board
instantiate_by d k t again (is_unknown b) = do
  Γ ← look
  cond (before k b Γ) (solve b (unknown k) done) (solve_monotype k t)
-- InstLArr, InstRArr
instantiate_by d k t again (is_arrow t₁ t₂) = do
  a ← fresh (splits k)
  b ← fresh (splits k)
  solve k (arrow (unknown a) (unknown b))
  push (tvar (node 17 a))
  push (tvar (node 17 b))
  push (off_side d (unknown a) t₁)
  push (on_side d (unknown b) t₂)
  done
-- papers silent
instantiate_by d k t again (is_app t₁ t₂) = do
  a ← fresh (splits k)
  b ← fresh (splits k)
  solve k (app (unknown a) (unknown b))
  push (tvar (node 17 a))
  push (tvar (node 17 b))
  push (on_side d (unknown a) t₁)
  push (on_side d (unknown b) t₂)
  done
instantiate_by d k t again (is_forall x b) = open_body d x b again
instantiate_by d k t again is_other = solve_monotype k t

-- each round takes a quantifier off the front, so the type's length is enough
unfoldable pub instantiate_from : ℕ → Side → ℕ → Ty → Rule
instantiate_from zero d k t = refuse (InstantiationError k (length t)) t
instantiate_from (suc n) d k t = instantiate_by d k t (λ t'. instantiate_from n d k t') (view t)

abbrev pub instantiate : Side → ℕ → Ty → Rule
instantiate d k t = instantiate_from (suc (length t)) d k t

---------------------------------------------------------------- solve_subtype
module _ (l r : Ty) where
  abbrev pub mismatch : Rule
  mismatch = refuse (SubtypingError (length l) (length r)) (l ++ r)

  -- <:∀R
  abbrev pub forall_right : ℕ → Ty → Rule
  forall_right x b = do
    u ← fresh universal
    push (tvar (node 18 u))
    push (sub l (substitute x (node 18 u) b))
    done

  -- <:∀L
  abbrev pub forall_left : ℕ → Ty → Rule
  forall_left x a = do
    u ← fresh own
    push (tvar (node 17 u))  -- the marker
    push (tvar (node 17 u))
    push (sub (substitute x (node 17 u) a) r)
    done

  -- <:InstantiateR, <:InstantiateL, with their occurs checks
  abbrev pub unknown_right : ℕ → Rule
  unknown_right k = cond (occurs k l) mismatch (instantiate right k l)

  abbrev pub unknown_left : ℕ → Rule → Rule
  unknown_left k otherwise = cond (occurs k r) otherwise (instantiate left k r)

  -- Arrow is <:→; App is the Rust's own, covariant in both parts, the papers being silent, and so are Product and Con, whose unequal sides are a mismatch
  abbrev pub subtype_by : View → View → Rule
  subtype_by (is_arrow a₁ a₂) (is_arrow b₁ b₂) = do
    push (sub b₁ a₁)
    push (sub a₂ b₂)
    done
  subtype_by (is_arrow a₁ a₂) (is_app b₁ b₂) = mismatch
  subtype_by (is_arrow a₁ a₂) (is_forall x b) = forall_right x b
  subtype_by (is_arrow a₁ a₂) (is_unknown k) = unknown_right k
  subtype_by (is_arrow a₁ a₂) is_other = mismatch
  subtype_by (is_app a₁ a₂) (is_arrow b₁ b₂) = mismatch
  subtype_by (is_app a₁ a₂) (is_app b₁ b₂) = do
    push (sub a₁ b₁)
    push (sub a₂ b₂)
    done
  subtype_by (is_app a₁ a₂) (is_forall x b) = forall_right x b
  subtype_by (is_app a₁ a₂) (is_unknown k) = unknown_right k
  subtype_by (is_app a₁ a₂) is_other = mismatch
  subtype_by (is_forall x a) (is_arrow b₁ b₂) = forall_left x a
  subtype_by (is_forall x a) (is_app b₁ b₂) = forall_left x a
  subtype_by (is_forall x a) (is_forall y b) = forall_right y b
  subtype_by (is_forall x a) (is_unknown k) = forall_left x a
  subtype_by (is_forall x a) is_other = forall_left x a
  subtype_by (is_unknown k) (is_arrow b₁ b₂) = unknown_left k mismatch
  subtype_by (is_unknown k) (is_app b₁ b₂) = unknown_left k mismatch
  subtype_by (is_unknown k) (is_forall y b) = forall_right y b
  subtype_by (is_unknown k) (is_unknown j) = unknown_left k (unknown_right j)
  subtype_by (is_unknown k) is_other = unknown_left k mismatch
  subtype_by is_other (is_arrow b₁ b₂) = mismatch
  subtype_by is_other (is_app b₁ b₂) = mismatch
  subtype_by is_other (is_forall y b) = forall_right y b
  subtype_by is_other (is_unknown k) = unknown_right k
  subtype_by is_other is_other = mismatch

-- equal sides finish: <:Var, <:Exvar, <:Unit, and any other type with itself
unfoldable pub subtype : Ty → Ty → Rule
subtype s t = do
  l ← zonk s
  r ← zonk t
  cond (eq_ty l r) done (subtype_by l r (view l) (view r))

---------------------------------------------------------------- constructors and patterns: papers silent
-- a fresh unknown for each quantifier at the front; of one name the later unknown counts
unfoldable pub open_names : List ℕ → Renaming → (Renaming → Rule) → Rule
open_names [] m f = f m
open_names (x ∷ xs) m f = do
  a ← fresh own
  push (tvar (node 17 a))
  open_names xs ((x, a) ∷ m) f

-- `instantiate_constructor_type`
abbrev pub instantiate_constructor : Ty → (Ty → Rule) → Rule
instantiate_constructor t f = open_names (front_names t) [] (λ m. f (rename m (after_front t)))

-- the arguments of the Arrows at the front, and the result; each round takes a node or more
abbrev pub signature_by : List Ty → Ty → (List Ty → Ty → Rule) → (List Ty → Ty → Rule) → View → Rule
signature_by ps t f again (is_arrow a b) = again (ps ++ (a ∷ [])) b
signature_by ps t f again (is_app a b) = f ps t
signature_by ps t f again (is_forall x b) = f ps t
signature_by ps t f again (is_unknown k) = f ps t
signature_by ps t f again is_other = f ps t

unfoldable pub signature_from : ℕ → List Ty → Ty → (List Ty → Ty → Rule) → Rule
signature_from zero ps t f = f ps t
signature_from (suc n) ps t f = signature_by ps t f (λ ps' t'. signature_from n ps' t' f) (view t)

-- `extract_constructor_signature`
abbrev pub extract_signature : Ty → (List Ty → Ty → Rule) → Rule
extract_signature t f = instantiate_constructor t (λ t'. signature_from (length t') [] t' f)

-- a map in rising order of names; a repeated name takes the last type
unfoldable pub insert : ℕ → Ty → Bindings → Bindings
insert x t [] = ◌∶◌ x t ∷ []
insert x t (◌∶◌ y u ∷ bs) =
    cond (eqb x y) (◌∶◌ x t ∷ bs) (cond (ltb x y) (◌∶◌ x t ∷ (◌∶◌ y u ∷ bs)) (◌∶◌ y u ∷ insert x t bs))

unfoldable pub push_vars : Bindings → Rule → Rule
push_vars [] p = p
push_vars (◌∶◌ x t ∷ bs) p = push (var x t) (push_vars bs p)

module _ (E : Env) where
  -- one line of a pattern that is to have type `t`; `again` goes on with the types of the patterns after it
  abbrev pub pattern_parts : ℕ → Ty → (List Ty → Rule) → List Ty → Ty → Rule
  pattern_parts c t again ps res = do
    push (sub res t)
    cond (eqb c (length ps)) (again ps) (refuse (ArityMismatch (length ps) c) [])

  abbrev pub pattern_constructor : ℕ → ℕ → Ty → (List Ty → Rule) → Option Ty → Rule
  pattern_constructor x c t again None = refuse (UnboundDataConstructor x) []
  pattern_constructor x c t again (Some k) = extract_signature k (pattern_parts c t again)

  abbrev pub pattern_by : ℕ → ℕ → Ty → Bindings → (List Ty → Bindings → Rule) → PatternView → Rule
  pattern_by x c t bs again is_wildcard = again [] bs
  pattern_by x c t bs again is_pattern_var = again [] (insert x t bs)
  pattern_by x c t bs again is_pattern_constructor = pattern_constructor x c t (λ ps. again ps bs) (lookup x E.constructors)

  -- `check_pattern`: the patterns of these types, one after the other in prefix order
  unfoldable pub check_patterns : List Triple → List Ty → Bindings → (Bindings → Rule) → Rule
  check_patterns [] ts bs f = f bs
  check_patterns (l ∷ ls) [] bs f = f bs
  check_patterns (l ∷ ls) (t ∷ ts) bs f =
      pattern_by l.value l.count t bs (λ ps bs'. check_patterns ls (ps ++ ts) bs' f) (pattern_view l.kind)

  -- the arms of a Case on type s, all pushed
  unfoldable pub check_arms : ℕ → Term → Ty → Ty → Rule
  check_arms zero arms s t = done
  check_arms (suc n) arms s t = check_patterns (part 0 arms).lines (s ∷ []) [] λ bs.
      push_vars bs (push (chk (part 1 arms) t) (check_arms n (after_parts 2 arms) s t))

  ---------------------------------------------------------------- solve_inference
  abbrev pub variable : ℕ → Ty → Option Ty → Option Ty → Option Ty → Rule
  variable x t (Some u) b c = push (sub u t) done
  variable x t None (Some u) c = push (sub u t) done
  variable x t None None (Some u) = push (sub u t) done
  variable x t None None None = refuse (UnboundVariable x) []

  abbrev pub constructor : ℕ → Ty → Option Ty → Rule
  constructor x t None = refuse (UnboundDataConstructor x) []
  constructor x t (Some k) = instantiate_constructor k λ u. push (sub u t) done

  abbrev pub infer_by : Ty → TermView → Rule
  -- Var. A context variable hides one on the board.
  infer_by t (is_var x) = do
    Γ ← look
    variable x t (lookup x E.context) (find_var x Γ) (lookup x E.constructors)
  -- papers silent
  infer_by t is_lit_int = push (sub Int t) done
  -- →I⇒, with the Lambda's own type in the place of a fresh unknown: papers silent
  infer_by t (is_lambda x s e) = do
    b ← fresh_unknown
    push (sub (arrow s (unknown b)) t)
    push (var x s)
    push (inf e (unknown b))
    done
  -- →E
  infer_by t (is_apply f e) = do
    a ← fresh_unknown
    push (inf_app (unknown a) e t)
    push (inf f (unknown a))
    done
  -- papers silent, here and below
  infer_by t (is_type_lambda x e) = do
    b ← fresh_unknown
    push (sub (forall x (unknown b)) t)
    push (tvar (node 11 x))
    push (inf e (unknown b))
    done
  infer_by t (is_constructor x) = constructor x t (lookup x E.constructors)
  infer_by t (is_case n e arms) = do
    a ← fresh_unknown
    push (chk e (unknown a))
    check_arms n arms (unknown a) t
  infer_by t (is_bin_op op e₁ e₂) = do
    push (chk e₁ Int)
    push (chk e₂ Int)
    push (sub (con (cond (leb op 4) 1 2)) t)
    done
  infer_by t (is_if e₁ e₂ e₃) = do
    push (chk e₁ BoolT)
    push (chk e₂ t)
    push (chk e₃ t)
    done
  infer_by t (is_intrinsic x n e) =
      cond (eqb x 4)
      (cond (eqb n 1) (push (chk e Int) (push (sub UnitT t) done)) (refuse (IntrinsicArityMismatch n) []))
      (refuse (UnknownIntrinsic x) [])
  infer_by t is_none = refuse (UnboundVariable 0) []  -- no term is like this

  ---------------------------------------------------------------- solve_checking
  -- Sub
  abbrev pub synthesize : Term → Ty → Rule
  synthesize e t = do
    a ← fresh_unknown
    push (sub (unknown a) t)
    push (inf e (unknown a))
    done

  -- →I. The Lambda's own type is compared with the Arrow's argument: papers silent.
  abbrev pub check_arrow : Term → Ty → Ty → Ty → Option Lambda → Rule
  check_arrow e t a b None = synthesize e t
  check_arrow e t a b (Some f) = do
    push (sub f.type a)
    push (var f.param f.type)
    push (chk f.body b)
    done

  abbrev pub check_by : Term → Ty → View → Rule
  check_by e t (is_arrow a b) = check_arrow e t a b (lambda_of e)
  -- ∀I
  check_by e t (is_forall x b) = do
    u ← fresh universal
    push (tvar (node 18 u))
    push (chk e (substitute x (node 18 u) b))
    done
  check_by e t (is_app a b) = synthesize e t
  check_by e t (is_unknown k) = synthesize e t
  check_by e t is_other = synthesize e t

  ---------------------------------------------------------------- solve_inf_app
  abbrev pub apply_by : Ty → Term → Ty → View → Rule
  -- →App
  apply_by f e c (is_arrow a b) = do
    push (sub b c)
    push (chk e a)
    done
  -- ∀App
  apply_by f e c (is_forall x b) = do
    a ← fresh_unknown
    push (inf_app (substitute x (node 17 a) b) e c)
    done
  -- ^αApp
  apply_by f e c (is_unknown k) = do
    a ← fresh (splits k)
    b ← fresh (splits k)
    push (tvar (node 17 a))
    push (tvar (node 17 b))
    solve k (arrow (unknown a) (unknown b))
    push (sub (unknown b) c)
    push (chk e (unknown a))
    done
  apply_by f e c (is_app a b) = refuse (NotAFunction (length f)) f
  apply_by f e c is_other = refuse (NotAFunction (length f)) f

  unfoldable pub infer_app : Ty → Term → Ty → Rule
  infer_app f e c = do
    f' ← zonk f
    c' ← zonk c
    apply_by f' e c' (view f')

  ---------------------------------------------------------------- solve_judgment; a taken TVar or Var is dropped
  abbrev pub rule : Entry → Rule
  rule (tvar n) = done
  rule (var x t) = done
  rule (sub s t) = subtype s t
  rule (inf e t) = infer_by t (term_view e)
  rule (chk e t) = check_by e t (view t)
  rule (inf_app f e c) = infer_app f e c
