-- A pattern, read line by line. Assumes nothing: these are definitions.
use Rattle.std.specs.Prelude.{◌≡◌, cond, List, [], ◌∷◌, ◌++◌, ℕ, ◌+◌, ◌*◌, ◌-◌, ◌≤◌, ◌<◌, eqb, length, get_or, take, drop}
use Rattle.sizes.specs.Sizes.{most_nodes, most_numbers}
use Rattle.nodes.specs.Nodes.{Ty}
use Rattle.nodes.specs.Parts.{Whole}
use Rattle.nodes.specs.Lists.{All}
use Rattle.spelling.specs.declared.Triple.{Triple}
use Rattle.kinds.specs.Kinds.{parts_of}
use Rattle.sheet.specs.Plan.{no_triple, nodes_of, Narrow, Bindings, lookup, plan_of}
use Rattle.sheet.specs.Form.{Formed}
use Rattle.judgment.specs.declared.TypeError.TheVariants.{ArityMismatch}
use Rattle.judgment.specs.Types.{unknown}
use Rattle.judgment.specs.Board.{refuse}
use Rattle.judgment.specs.Rules.{Env, extract_signature, pattern_parts, pattern_constructor, check_patterns}
use Rattle.judgment.specs.Result.{env_of}
use Rattle.operations.specs.declared.Run.{Run}
use Rattle.references.specs.declared.TypeRef.{TypeRef}
use Rattle.references.specs.References.{Declared, TypeLine, pending_of, Good}
use Rattle.tables.specs.Rows.{types_of, Frames, bindings_at, Sound}
use Rattle.patterns.specs.declared.Parts.{Parts}
use Rattle.patterns.specs.declared.Named.{Named}
use Rattle.patterns.specs.declared.Lined.{Lined}
use Rattle.patterns.specs.declared.Checked.{Checked}
use Rattle.patterns.specs.Turns.{Ready, Turn}

-- data constructors and context of the plan on a sheet
abbrev pub env_at : List Triple → Env
env_at ls = env_of (plan_of ls)

-- a sheet that is taken, of few lines
pub record Sheet (ls : List Triple) : Type 0 where
  pub formed : Formed ls
  pub few : length ls ≤ most_nodes

abbrev pub Arity : List Triple → List ℕ → Run → ℕ → ℕ → Run → Type 0
Arity ls b c arity count r = Turn {A = ℕ} ls b c (λ f. cond (eqb count arity) (f 0) (refuse (ArityMismatch arity count) [])) b r (λ f. f 0)

-- ---- a constructor pattern of that many parts: `first` and n are the lines of the constructor's type
pub record PartsAsk (b : List ℕ) (c : Run) (ls : List Triple) (first n count : ℕ) (want : TypeRef) (l r : List ℕ) : Type 0 where
  pub ready : Ready b c
  pub some : 0 < n
  pub few : n ≤ most_nodes
  pub lines : first + n ≤ length ls
  pub narrow : All Narrow (take n (drop first ls))
  pub types : All TypeLine (take n (drop first ls))
  pub whole : Whole parts_of (take n (drop first ls)) 1
  pub declared : Declared ls first n
  pub small : count < 131072
  pub good : Good ls want
  pub left : 2 * length ls + 2 ≤ length l
  pub right : 2 * length ls + 2 ≤ length r

-- the reference to the opened type, of that many nodes
abbrev pub body_of : ℕ → ℕ → ℕ → ℕ → TypeRef
body_of first n nodes base = record { first = first; lines = n; at = n - nodes; count = nodes; base = base }

pub record Parting (b : List ℕ) (c : Run) (ls : List Triple) (first n count : ℕ) (t : Ty) (b' : List ℕ) (o : Parts) : Type 0 where
  pub nodes : o.nodes ≤ n
  pub good : Good ls (body_of first n o.nodes c.counters.fresh)
  pub arity : o.arity ≡ length (pending_of ls (body_of first n o.nodes c.counters.fresh))
  pub turn : (E : Env)
      → Turn {A = List Ty} ls b c (λ f. extract_signature (nodes_of (take n (drop first ls))) (pattern_parts E count t f)) b' o.run (λ f. f (pending_of ls (body_of first n o.nodes c.counters.fresh)))

-- one more frame, where r has parameters
pub record Adds (w : List ℕ) (n : ℕ) (r : TypeRef) (arity : ℕ) (w' : List ℕ) (d : ℕ) : Type 0 where
  pub depth : d ≤ n + 1
  pub frames : (ls : List Triple) → Good ls r → arity ≡ length (pending_of ls r) → Frames ls w n → Frames ls w' d × (types_of ls w' d ≡ pending_of ls r ++ types_of ls w n)

-- ---- a constructor pattern by its name and count
pub record NameAsk (b : List ℕ) (c : Run) (ls : List Triple) (x count : ℕ) (want : TypeRef) (w : List ℕ) (n : ℕ) (l r : List ℕ) : Type 0 where
  pub ready : Ready b c
  pub sheet : Sheet ls
  pub name : x < 4294967296
  pub small : count < 131072
  pub good : Good ls want
  pub frames : Frames ls w n
  pub deep : 6 * n + 6 ≤ length w
  pub left : 2 * length ls + 2 ≤ length l
  pub right : 2 * length ls + 2 ≤ length r

pub record Naming (b : List ℕ) (c : Run) (ls : List Triple) (x count : ℕ) (t : Ty) (w : List ℕ) (n : ℕ) (b' w' : List ℕ) (o : Named) : Type 0 where
  pub depth : o.depth ≤ n + 1
  pub frames : Frames ls w' o.depth
  pub turn : Turn {A = List Ty} ls b c (λ f. pattern_constructor (env_at ls) x count t (λ ps. f (ps ++ types_of ls w n)) (lookup x (env_at ls).constructors)) b' o.run (λ f. f (types_of ls w' o.depth))

-- ---- a line
pub record LineAsk (b : List ℕ) (c : Run) (ls : List Triple) (p : ℕ) (w : List ℕ) (n : ℕ) (v : List ℕ) (j : ℕ) (l r : List ℕ) : Type 0 where
  pub ready : Ready b c
  pub sheet : Sheet ls
  pub line : p < length ls
  pub narrow : Narrow (get_or ls p no_triple)
  pub some : 0 < n
  pub frames : Frames ls w n
  pub deep : 6 * n + 6 ≤ length w
  pub sound : Sound ls v j
  pub rows : 6 * j + 6 ≤ length v
  pub left : 2 * length ls + 2 ≤ length l
  pub right : 2 * length ls + 2 ≤ length r

-- what is left of the pattern is the lines after it
pub record Lining (b : List ℕ) (c : Run) (ls : List Triple) (p : ℕ) (w : List ℕ) (n : ℕ) (v : List ℕ) (j : ℕ) (b' w' v' : List ℕ) (o : Lined) : Type 0 where
  pub depth : o.depth ≤ n + 1
  pub bound : o.bound ≤ j + 1
  pub frames : Frames ls w' o.depth
  pub sound : Sound ls v' o.bound
  pub turn : (left : ℕ) → 0 < left
      → Turn {A = Bindings} ls b c (λ f. check_patterns (env_at ls) (take left (drop p ls)) (types_of ls w n) (bindings_at ls v 0 j) f) b' o.run
      (λ f. check_patterns (env_at ls) (take (left - 1) (drop (p + 1) ls)) (types_of ls w' o.depth) (bindings_at ls v' 0 o.bound) f)

-- ---- a pattern
pub record CheckAsk (b : List ℕ) (c : Run) (ls : List Triple) (first lines u : ℕ) (w v l r : List ℕ) : Type 0 where
  pub ready : Ready b c
  pub sheet : Sheet ls
  pub stands : first + lines ≤ length ls
  pub narrow : All Narrow (take lines (drop first ls))
  pub low : u ≤ most_numbers
  pub frames : 6 * lines + 12 ≤ length w
  pub rows : 6 * lines + 6 ≤ length v
  pub left : 2 * length ls + 2 ≤ length l
  pub right : 2 * length ls + 2 ≤ length r

module _ (b : List ℕ) (c : Run) (ls : List Triple) (first lines u : ℕ) where
  -- i lines were read
  pub record Reading (b' : List ℕ) (r : Run) (w : List ℕ) (n : ℕ) (v : List ℕ) (j i : ℕ) : Type 0 where
    pub within : i ≤ lines
    pub narrow : All Narrow (take (lines - i) (drop (first + i) ls))
    pub frames : Frames ls w n
    pub sound : Sound ls v j
    pub deep : n ≤ i + 1
    pub few : j ≤ i
    pub turn : Turn {A = Bindings} ls b c (λ f. check_patterns (env_at ls) (take lines (drop first ls)) (unknown u ∷ []) [] f) b' r
        (λ f. check_patterns (env_at ls) (take (lines - i) (drop (first + i) ls)) (types_of ls w n) (bindings_at ls v 0 j) f)

  -- the whole
  pub record Checking (b' v : List ℕ) (o : Checked) : Type 0 where
    pub sound : Sound ls v o.bound
    pub few : o.bound ≤ lines
    pub turn : Turn {A = Bindings} ls b c (λ f. check_patterns (env_at ls) (take lines (drop first ls)) (unknown u ∷ []) [] f) b' o.run (λ f. f (bindings_at ls v 0 o.bound))
