use Rattle.std.proofs.Common.{rules, ℕ, List, ◌≡◌, ◌-◌, length, take, drop, replicate, ap, ◌∙◌, arith, length-take}
use Rattle.std.proofs.lemmas.List.{length-replicate}
use Rattle.cfb_sectors.specs.Held.{bytes_of, version_of}
use Rattle.cfb_sectors.proofs.Counts.{longest}
use Rattle.cfb_fat.proofs.Words.{front_is}
use Rattle.cfb_fat.proofs.difat.push_entries.Goals as goal

pub returns-clause-read : goal.returns-clause-read
returns-clause-read g c = λ honest.
    let it = c.args.sectors.now in
    let len = c.sector_len-len.result - 4 in
    let zeros : List ℕ = replicate 4096 0 in
    let most = longest (version_of it) in
    let part : length (take len zeros) ≡ len = let all = length-take len zeros in let many = length-replicate {A = ℕ} 4096 in omega (arith, all, many, most, c.sector_len-len.ensures) in
    let kept : length c.read_contiguous.new.buffer ≡ length (take len zeros) = search rules in
    c.in_ok-extend_from_slice.ensures.items
    ∙ front_is (version_of it) (bytes_of it) (bytes_of it) c.args.found.now.items c.deref.result.now c.read_contiguous.new.buffer (drop len zeros) c.in_ok-numbers_in.field-0.items c.args.sector_id len (length (take len zeros))
    (ap (λ n. n - 4) c.sector_len-len.ensures) part kept (c.in_ok-read_contiguous.ensures.read honest) c.in_ok-numbers_in.ensures c.deref.ensures.value
