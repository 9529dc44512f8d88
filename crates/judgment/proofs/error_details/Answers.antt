use mathlib.Core.Path.{sym, ap}
use Rattle.judgment.specs.Result.{error_details}
use Rattle.judgment.proofs.error_details.Goals as goal

pub returns-in-UnboundVariable : goal.returns-in-UnboundVariable
returns-in-UnboundVariable c = sym (ap error_details c.in-UnboundVariable.is)

pub returns-in-UnboundDataConstructor : goal.returns-in-UnboundDataConstructor
returns-in-UnboundDataConstructor c = sym (ap error_details c.in-UnboundDataConstructor.is)

pub returns-in-NotAFunction : goal.returns-in-NotAFunction
returns-in-NotAFunction c = sym (ap error_details c.in-NotAFunction.is)

pub returns-in-ArityMismatch : goal.returns-in-ArityMismatch
returns-in-ArityMismatch c = sym (ap error_details c.in-ArityMismatch.is)

pub returns-in-SubtypingError : goal.returns-in-SubtypingError
returns-in-SubtypingError c = sym (ap error_details c.in-SubtypingError.is)

pub returns-in-TypeUnificationError : goal.returns-in-TypeUnificationError
returns-in-TypeUnificationError c = sym (ap error_details c.in-TypeUnificationError.is)

pub returns-in-InstantiationError : goal.returns-in-InstantiationError
returns-in-InstantiationError c = sym (ap error_details c.in-InstantiationError.is)

pub returns-in-IntrinsicArityMismatch : goal.returns-in-IntrinsicArityMismatch
returns-in-IntrinsicArityMismatch c = sym (ap error_details c.in-IntrinsicArityMismatch.is)

pub returns-in-UnknownIntrinsic : goal.returns-in-UnknownIntrinsic
returns-in-UnknownIntrinsic c = sym (ap error_details c.in-UnknownIntrinsic.is)

pub returns-in-BoardFull : goal.returns-in-BoardFull
returns-in-BoardFull c = sym (ap error_details c.in-BoardFull.is)

pub returns-in-TypeTooLong : goal.returns-in-TypeTooLong
returns-in-TypeTooLong c = sym (ap error_details c.in-TypeTooLong.is)

pub returns-in-NoFreshNumber : goal.returns-in-NoFreshNumber
returns-in-NoFreshNumber c = sym (ap error_details c.in-NoFreshNumber.is)

pub returns-in-SolutionsFull : goal.returns-in-SolutionsFull
returns-in-SolutionsFull c = sym (ap error_details c.in-SolutionsFull.is)

pub returns-in-OutOfScope : goal.returns-in-OutOfScope
returns-in-OutOfScope c = sym (ap error_details c.in-OutOfScope.is)
