use Rattle.std.proofs.Common.{inl, inr}
use Rattle.wording.proofs.separator.Goals as goal

pub returns-in-Alone : goal.returns-in-Alone
returns-in-Alone c = elim c.in-Alone.is [ inl e ↦ rw e | inr f ↦ elim f [ inl e ↦ rw e | inr e ↦ rw e ] ]

pub returns-in-Result : goal.returns-in-Result
returns-in-Result c = rw c.in-Result.is c.as_bytes.ensures.value

pub returns-in-Part : goal.returns-in-Part
returns-in-Part c = rw c.in-Part.is c.as_bytes-in-Part.ensures.value

pub returns-in-Argument : goal.returns-in-Argument
returns-in-Argument c = rw c.in-Argument.is
