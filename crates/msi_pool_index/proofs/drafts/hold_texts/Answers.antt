use Rattle.std.proofs.Common.{◌≡◌, refl, true, Bool, false}
use Rattle.std.specs.Prelude.{◌||◌, bytes_eq, is_some, string_bytes}
use Rattle.std.specs.List.{list_any}
use Rattle.std.specs.BTreeMap.{get_by_text}
use Rattle.msi_pool_index.proofs.Rooms.{text_among}
use Rattle.msi_pool_index.proofs.drafts.hold_texts.Goals as goal

or_true : (a b : Bool) → b ≡ true → (a || b) ≡ true
or_true true b e = refl
or_true false b e = e

pub loop-text-init : goal.loop-text-init
loop-text-init c = record {
  there = λ t some. or_true (is_some (get_by_text c.args.room.now t)) (list_any (λ text. bytes_eq t (string_bytes text)) c.into_iter-text-iterator.result) (let h = text_among c.args.touched.now.entries t some in rw (c.into_iter-text-iterator.ensures.into_iter_gives, c.keys-text-items.ensures.rest) h);
  same = λ t i. refl;
}
