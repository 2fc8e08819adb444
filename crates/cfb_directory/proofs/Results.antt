-- What a call answered, told of together.
use Rattle.std.specs.Prelude.{Result, Ok, Err, OnOk}

pub two_ok : {T E : Type 0} (r : Result T E) (P Q R : Type 0) → (P → Q → R) → OnOk r P → OnOk r Q → OnOk r R
two_ok (Ok x) P Q R f p q = f p q
two_ok (Err e) P Q R f p q = tt
