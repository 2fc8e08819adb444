use Rattle.std.proofs.Common.{refl, ⊎_elim}
use Rattle.std.specs.Int.{to_le_bytes, w32}
use Rattle.cfb_fat.specs.HeaderWords.{word_place}
use Rattle.cfb_fat.proofs.Leaving.{beside_words}
use Rattle.cfb_chain_io.proofs.GoingOn.{rests_go_on, word_goes_on}
use Rattle.cfb_chain_io.proofs.header.write_word.Goals as goal

pub returns-clause-invariants : goal.returns-clause-invariants
returns-clause-invariants g c =
    let a = c.args.allocator.now in
    let b = c.write_header_word.new.self in
    ⊎_elim
    (λ wrote. word_goes_on (word_place c.args.word) (to_le_bytes w32 c.args.number) a b refl (beside_words c.args.word) wrote)
    (λ rests. rests_go_on a b rests)
    c.write_header_word.ensures.either
