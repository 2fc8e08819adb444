use Rattle.std.proofs.Common.{rules, ℕ, ◌*◌, ◌≡◌, ◌++◌, List, length, take, drop, ap, sym, ◌∙◌, arith}
use Rattle.std.proofs.lemmas.List.{take_all}
use Rattle.std.proofs.Math.Seq.{take-append_seam}
use Rattle.cfb_medium.specs.Versions.{sector_len}
use Rattle.cfb_chains.specs.LinkViews.{ids_of}
use Rattle.cfb_chains.proofs.ChainWriting.{length-joined}
use Rattle.cfb_fat.specs.Tables.{bytes_of, version_of}
use Rattle.cfb_chain_io.specs.ChainEffects.{content_of}
use Rattle.cfb_mini.proofs.mini_fat.read_bytes.Goals as goal

whole : (len n : ℕ) (buffer rest content : List ℕ) → n ≡ len → length content ≡ len → buffer ≡ take n (drop 0 content) → take len (buffer ++ rest) ≡ content
whole len n buffer rest content same size is =
    rw (is ∙ take_all n content (omega (arith, same, size))) (ap (λ k. take k (content ++ rest)) (sym size) ∙ take-append_seam content rest)

pub returns-clause-read : goal.returns-clause-read
returns-clause-read g c = λ has.
    let it = c.args.allocator.now in
    let links = c.args.links.now in
    let len : length (content_of it links) ≡ length (ids_of links) * sector_len (version_of it) = length-joined (version_of it) (bytes_of it) (ids_of links) in
    let made : c.resize.new.self.len ≡ length (ids_of links) * sector_len (version_of it) =
    c.in_ok-resize.ensures.len ∙ ap (λ n. n * c.sector_len.result) (ap length c.sector_ids.ensures)
    ∙ ap (λ n. length (ids_of links) * n) (c.sector_len.ensures ∙ ap sector_len (c.version.ensures ∙ has.version)) in
    whole c.resize.new.self.len (length c.deref_mut.result.now) c.read_chain.new.buffer _ (content_of it links) (search rules) (len ∙ sym made) (c.in_ok-read_chain.ensures.read has)
