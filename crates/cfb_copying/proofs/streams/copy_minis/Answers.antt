use Rattle.std.proofs.Common.{[], ◌+◌, ap, arith, length, Err}
use Rattle.cfb_sectors.specs.Sectors.{end_of_chain}
use Rattle.cfb_creating.specs.NewFile.{new_directory}
use Rattle.cfb_chains.specs.LinkViews.{ids_of}
use Rattle.cfb_fat.specs.OnlyReads.{all_rest_then}
use Rattle.cfb_chain_io.proofs.GoingOn.{goes_then}
use Rattle.cfb_ownership.specs.Owners.{directory_owner, mini_fat_owner, mini_stream_owner}
use Rattle.cfb_copying.specs.Making.{with_list}
use Rattle.cfb_copying.proofs.MinisCopied.{bytes_then, mini_fat_can, mini_fat_never, mini_stream_can, mini_stream_never, minis_copied, new_own, own_then, some_entries}
use Rattle.cfb_copying.proofs.NextStreams.{entry_found}
use Rattle.cfb_copying.proofs.Originals.{original_rests}
use Rattle.cfb_copying.proofs.PutChains.{no_full}
use Rattle.cfb_copying.proofs.StepsThen.{steps_done, steps_fail}
use Rattle.cfb_copying.proofs.streams.copy_minis.Goals as goal

pub returns-then-is_empty-clause-refused_only_if : goal.returns-then-is_empty-clause-refused_only_if
returns-then-is_empty-clause-refused_only_if g c = λ s who ids original same at begun.
    let some = some_entries c.args.source.now c.args.target.now s who ids c.args.entries.now original same begun in let is = c.if-is_empty.ensures in let told = c.is_empty.ensures in let test = c.if-is_empty.true in absurd (grind (arith, some, is, told, test))

pub returns-in-Err-clause-refused_only_if : goal.returns-in-Err-clause-refused_only_if
returns-in-Err-clause-refused_only_if g c = λ s who ids original same at begun.
    let can = mini_fat_can c.args.source.now c.args.target.now s who ids c.args.entries.now original same begun c.args.mini_fat_at at in
    no_full c.in-Err.error
    (λ full. mini_fat_never c.args.source.now c.args.target.now s who ids c.args.entries.now original same begun (c.in-Err.ensures.stopped (ap Err full) (who.sectors mini_fat_owner) can.chain))
    (c.in-Err.ensures.refused_only_if 1 end_of_chain mini_fat_owner new_own (with_list directory_owner (new_directory s.version) (λ k. [])) (who.sectors mini_fat_owner) can)

pub returns-in-Err-put_chain-clause-steps : goal.returns-in-Err-put_chain-clause-steps
returns-in-Err-put_chain-clause-steps g c =
    let first = c.put_chain.ensures.steps in
    steps_fail c.in-Err-put_chain.error c.args.source.now c.put_chain.new.source c.put_chain-2.new.source c.args.target.now c.put_chain.new.target c.put_chain-2.new.target first.rests first.goes_on c.in-Ok.ensures.steps.live c.in-Err-put_chain.ensures.steps

pub returns-in-Err-put_chain-clause-refused_only_if : goal.returns-in-Err-put_chain-clause-refused_only_if
returns-in-Err-put_chain-clause-refused_only_if g c = λ s who ids original same at begun.
    let a = c.args.source.now in
    let b = c.args.target.now in
    let x = c.put_chain.new.source in
    let y = c.put_chain.new.target in
    let es = c.args.entries.now in
    let e = c.index-entries-0.result in
    let minis = ids_of c.in-Ok.links in
    let new_bytes = with_list directory_owner (new_directory s.version) (λ k. []) in
    let first = c.put_chain.ensures.steps in
    let read = original_rests a x s who ids first.rests original in
    let first_can = mini_fat_can a b s who ids es original same begun c.args.mini_fat_at at in
    let made = c.in-Ok.ensures.put 1 end_of_chain mini_fat_owner new_own new_bytes (who.sectors mini_fat_owner) first_can in
    let found = entry_found es 0 e (some_entries a b s who ids es original same begun) c.index-entries-0.is in
    let can = mini_stream_can a b s who ids es original same begun x y minis read first.goes_on.version e found made in
    no_full c.in-Err-put_chain.error
    (λ full. mini_stream_never a b s who ids es original same begun y first.goes_on.version (c.in-Ok.ensures.lean (who.sectors mini_fat_owner) first_can.chain 1 begun.lean) (c.in-Err-put_chain.ensures.stopped (ap Err full) (who.sectors mini_stream_owner) can.chain))
    (c.in-Err-put_chain.ensures.refused_only_if 1 end_of_chain mini_stream_owner (own_then a b s who ids es original same begun x y minis read first.goes_on.version e found made) (bytes_then a b s who ids es original same begun x y minis read first.goes_on.version e found made)
    (who.sectors mini_stream_owner) can)

pub returns-clause-steps : goal.returns-clause-steps
returns-clause-steps g c =
    let first = c.put_chain.ensures.steps in
    let second = c.put_chain-2.ensures.steps in
    steps_done c.in-Ok.links c.args.source.now c.put_chain-2.new.source c.args.target.now c.put_chain-2.new.target (all_rest_then c.args.source.now c.put_chain.new.source c.put_chain-2.new.source first.rests second.rests)
    (goes_then c.args.target.now c.put_chain.new.target c.put_chain-2.new.target first.goes_on second.goes_on) c.in-Ok-put_chain.ensures.steps.live

pub returns-clause-copied : goal.returns-clause-copied
returns-clause-copied g c = λ s who ids original same at begun.
    let a = c.args.source.now in
    let b = c.args.target.now in
    let x = c.put_chain.new.source in
    let y = c.put_chain.new.target in
    let es = c.args.entries.now in
    let e = c.index-entries-0.result in
    let minis = ids_of c.in-Ok.links in
    let new_bytes = with_list directory_owner (new_directory s.version) (λ k. []) in
    let first = c.put_chain.ensures.steps in
    let read = original_rests a x s who ids first.rests original in
    let first_can = mini_fat_can a b s who ids es original same begun c.args.mini_fat_at at in
    let made = c.in-Ok.ensures.put 1 end_of_chain mini_fat_owner new_own new_bytes (who.sectors mini_fat_owner) first_can in
    let found = entry_found es 0 e (some_entries a b s who ids es original same begun) c.index-entries-0.is in
    let can = mini_stream_can a b s who ids es original same begun x y minis read first.goes_on.version e found made in
    minis_copied a b s who ids es original same begun x y minis read first.goes_on.version e found made c.put_chain-2.new.target (ids_of c.in-Ok-put_chain.links) c.start_of.result c.start_of.ensures c.put_chain-2.ensures.steps.goes_on.version
    (c.in-Ok-put_chain.ensures.put 1 end_of_chain mini_stream_owner (own_then a b s who ids es original same begun x y minis read first.goes_on.version e found made) (bytes_then a b s who ids es original same begun x y minis read first.goes_on.version e found made)
    (who.sectors mini_stream_owner) can)
    (c.in-Ok-put_chain.ensures.lean (who.sectors mini_stream_owner) can.chain (1 + length (who.sectors mini_fat_owner)) (c.in-Ok.ensures.lean (who.sectors mini_fat_owner) first_can.chain 1 begun.lean))
