-- What holds of an answer, by its two cases.
use Rattle.std.proofs.Common.{Result, Ok, Err, OnErr}

pub on_err : {T E : Type 0} (P : Type 0) (r : Result T E) → P → OnErr r P
on_err P (Ok x) holds = tt
on_err P (Err e) holds = holds
