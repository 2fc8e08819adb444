use Rattle.std.proofs.Common.{length, refl, sym, subst, arith, ⊎_elim}
use Rattle.std.specs.Int.{to_le_bytes, w32}
use Rattle.cfb_fat.specs.Changing.{MayWrite, WritesBeside}
use Rattle.cfb_fat.proofs.GrowthSteps.{on_ok_map}
use Rattle.cfb_fat.specs.HeaderWords.{word_place}
use Rattle.cfb_fat.proofs.Leaving.{beside_words, word_leave, word_writable}
use Rattle.cfb_fat.proofs.allocator.Allocator.write_header_word.Goals as goal

pub write_beside-requires : goal.write_beside-requires
write_beside-requires g c =
    let it = c.args.self.now in
    let word = c.args.word in
    subst (λ p. MayWrite it p (length c.to_le_bytes-bytes.result)) (sym c.place.ensures)
    (subst (λ l. MayWrite it (word_place word) (length l)) (sym c.to_le_bytes-bytes.ensures) (word_writable it (word_place word) (beside_words word)))

pub returns-clause-leaves : goal.returns-clause-leaves
returns-clause-leaves g c =
    let it = c.args.self.now in
    let new = c.write_beside.new.self in
    let word = c.args.word in
    let bytes = to_le_bytes w32 c.args.number in
    let wrote : WritesBeside (word_place word) bytes it new =
    subst (λ p. WritesBeside p bytes it new) c.place.ensures (subst (λ l. WritesBeside c.place.result l it new) c.to_le_bytes-bytes.ensures c.write_beside.ensures.writes) in
    on_ok_map c.write_beside.result _ _ c.write_beside.ensures.not_failed
    (λ live honest. word_leave (word_place word) bytes it new refl (⊎_elim (λ before. omega (arith, before)) (λ after. after.1) (beside_words word)) wrote live.1 honest)
