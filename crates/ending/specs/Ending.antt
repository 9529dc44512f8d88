-- What a run in words has come to, where no more is taken. Assumes nothing: these are definitions.
use Rattle.judgment.specs.declared.TypeError.{TypeError}
use Rattle.std.specs.Prelude.{Bool, cond, ◌&&◌, List, ℕ, zero, suc, ◌*◌, ltb, Option, Some, None}
use Rattle.nodes.specs.Nodes.{nodes_at}
use Rattle.judgment.specs.declared.Answer.{Answer}
use Rattle.judgment.specs.Run.{End, accepted, ceiling, refused_by}
use Rattle.judgment.specs.Result.{end_number, end_details}
use Rattle.operations.specs.declared.Run.{Run}
use Rattle.operations.specs.State.{reported, going, refusal_of}

-- not refused, an entry remains, and the ceiling is not reached
abbrev pub takes_more : Run → ℕ → Bool
takes_more c C = going c.halt && (ltb 0 c.counters.board.entries && ltb c.counters.taken C)

-- the end, by how many entries remain and by the refusal
abbrev pub end_at : ℕ → End
end_at zero = accepted
end_at (suc n) = ceiling

abbrev pub end_by : Option TypeError → ℕ → List ℕ → End
end_by None n rep = end_at n
end_by (Some e) n rep = refused_by e (nodes_at rep 0 (reported e))

abbrev pub end_of : List ℕ → Run → End
end_of rep c = end_by (refusal_of c.halt) c.counters.board.entries rep

-- the word after an end's types in a report of so many words; a type that does not fit is cut off
unfoldable pub report_end : ℕ → Option TypeError → ℕ
report_end size None = 0
report_end size (Some e) = cond (ltb (2 * reported e) size) (2 * reported e) size

-- the seven numbers of an end
abbrev pub answer_by : Bool → End → ℕ → ℕ → Answer
answer_by plain e taken fresh = record {
  number = end_number e;
  line = 0;
  taken = taken;
  fresh = fresh;
  detail1 = (end_details e).0;
  detail2 = (end_details e).1;
  plain = cond plain 1 0;
}
