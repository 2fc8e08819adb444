use Rattle.std.proofs.Common.{sym, ◌∙◌}
use Rattle.std.specs.Prelude.{string_bytes}
use Rattle.msi_pool_index.proofs.Rooms.{rest_put, rest_there}
use Rattle.msi_pool_index.proofs.drafts.put_rooms.Goals as goal

pub loop-text-preserved : goal.loop-text-preserved
loop-text-preserved c =
    let put = rw c.as_str.ensures.value at c.put_places.ensures in
    record {
      whole = λ t i. rest_put c.loop-text.touched c.pop_first.new.self c.loop-text.room c.put_places.new.room (string_bytes c.in-Some.text) c.in-Some.places (sym c.in-Some.ensures.value) c.in-Some.ensures.updates put.room t i ∙ c.loop-text.invariant.whole t i;
      there = rest_there c.loop-text.touched c.pop_first.new.self c.loop-text.room c.put_places.new.room (string_bytes c.in-Some.text) c.in-Some.ensures.updates c.loop-text.invariant.there put.kept;
    }
