-- What several calls leave of a connection.
use Rattle.std.proofs.Common.{ℕ, List, Bool, Option, ◌∙◌, arith}
use Rattle.chv_io.specs.Links.{ReadLeaves}

pub read_leaves_join : {a b c : Option (List ℕ)} {x y z : Bool} {i j k : ℕ} → ReadLeaves a b x y i j → ReadLeaves b c y z j k
    → ReadLeaves a c x z i k
read_leaves_join first second = record {
  put_stays = second.put_stays ∙ first.put_stays;
  closed_stays = second.closed_stays ∙ first.closed_stays;
  later = omega (arith, first.later, second.later);
}
