-- Each reason for which a line of a script, a scenario or a trace is refused, as it is printed.
use Rattle.std.specs.Prelude.{ℕ, List, codes}
use Rattle.chv_defs_base.specs.declared.rule.Reason.{Reason}
use Rattle.chv_defs_base.specs.declared.rule.Reason.TheVariants.{UnknownWord, FieldCount, BadRegister, BadWidth, BadNumber, BadHex, BadName, UnknownLabel, LabelTwice, Unended, OutOfOrder, TooMany, NotHere, Unclosed, BadTrace, NotBuilt}

-- the name that is printed
abbrev pub reason_name : Reason → List ℕ
reason_name UnknownWord = codes "UnknownWord"
reason_name FieldCount = codes "FieldCount"
reason_name BadRegister = codes "BadRegister"
reason_name BadWidth = codes "BadWidth"
reason_name BadNumber = codes "BadNumber"
reason_name BadHex = codes "BadHex"
reason_name BadName = codes "BadName"
reason_name UnknownLabel = codes "UnknownLabel"
reason_name LabelTwice = codes "LabelTwice"
reason_name Unended = codes "Unended"
reason_name OutOfOrder = codes "OutOfOrder"
reason_name TooMany = codes "TooMany"
reason_name NotHere = codes "NotHere"
reason_name Unclosed = codes "Unclosed"
reason_name BadTrace = codes "BadTrace"
reason_name NotBuilt = codes "NotBuilt"
