-- A part of a chain is read into a part of a buffer.
use Rattle.std.proofs.Common.{◌≡◌, ℕ, ◌+◌, ◌*◌, ◌/◌, ◌%◌, ◌<◌, ◌≤◌, List, ◌++◌, length, take, drop, get_or, ap, sym, ◌∙◌, arith}
use Rattle.std.proofs.Math.Seq.{take-add}
use Rattle.std.proofs.lemmas.List.{drop-drop}
use Rattle.std.proofs.lemmas.Slice.{take-put_mid}
use borrow.Rule.Slice.PartMut.{put_mid}
use Rattle.cfb_medium.specs.Versions.{sector_len}
use Rattle.cfb_medium.specs.declared.version.Version.{Version}
use Rattle.cfb_sectors.specs.Sectors.{filled_part, joined, sector_start}
use Rattle.cfb_chains.specs.Positions.{left_in}
use Rattle.cfb_chains.proofs.ChainParts.{chain_part}
use Rattle.cfb_chains.proofs.ChainWriting.{split, split_below}

-- a part that lies in one sector is that part of the chain
pub part_of : (v : Version) (b ids : List ℕ) (position count sector offset : ℕ) → position < length ids * sector_len v → count ≤ left_in v position → sector ≡ get_or ids (position / sector_len v) 0 → offset ≡ position % sector_len v
    → filled_part b (sector_start v sector + offset) count ≡ take count (drop position (joined v b ids))
part_of v b ids position count sector offset inside few is_sector is_offset =
    let parts = split v position in
    let room : position % sector_len v + count ≤ sector_len v = omega (arith, parts.1, few) in
    ap (λ n. filled_part b (sector_start v n + offset) count) is_sector ∙ ap (λ o. filled_part b (sector_start v (get_or ids (position / sector_len v) 0) + o) count) is_offset
    ∙ chain_part v b ids (position / sector_len v) (position % sector_len v) count (split_below v position (length ids) inside) room
    ∙ ap (λ p. take count (drop p (joined v b ids))) parts.0

pub more_read : (content buffer piece : List ℕ) (at done count k : ℕ) → done ≤ length buffer → length piece ≡ count → piece ≡ take count (drop (at + done) content) → take done buffer ≡ take done (drop at content)
    → take (done + count) (put_mid done k buffer piece) ≡ take (done + count) (drop at content)
more_read content buffer piece at done count k inside size is before =
    take-put_mid done k buffer piece (done + count) (omega (arith, size)) inside ∙ ap (λ l. l ++ piece) before ∙ ap (λ l. take done (drop at content) ++ l) is
    ∙ ap (λ l. take done (drop at content) ++ take count l) (sym (drop-drop done at content ∙ ap (λ n. drop n content) (omega arith))) ∙ sym (take-add done count (drop at content))
