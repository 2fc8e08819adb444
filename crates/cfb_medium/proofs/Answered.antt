-- Small facts on answers. (Std's `lemmas.Bool` and `lemmas.Result` have the others: `and_parts`, `or_parts`, `both_ways`, `on_ok_weaker`.)
use Rattle.std.specs.Prelude.{Result, Ok, Err, OnOk}

-- what holds anyway holds where a call succeeds
pub on_ok : {T E : Type 0} (r : Result T E) (P : Type 0) → P → OnOk r P
on_ok (Ok x) P p = p
on_ok (Err e) P p = tt
