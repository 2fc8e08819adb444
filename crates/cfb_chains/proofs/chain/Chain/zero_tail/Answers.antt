use Rattle.std.proofs.Common.{◌≡◌, ℕ, ◌%◌, ◌≤◌, ◌⊎◌, ◌∙◌, List, ap, subst, length, replicate, arith}
use Rattle.std.proofs.lemmas.List.{length-replicate}
use Rattle.cfb_medium.specs.Bytes.{overwritten}
use Rattle.cfb_medium.specs.Versions.{sector_len}
use Rattle.cfb_chains.specs.ChainViews.{holder_of, sectors_of, version_of}
use Rattle.cfb_chains.specs.Positions.{left_in, tail_in}
use Rattle.cfb_chains.proofs.ChainWriting.{inside_yet, tail_left, written_at, zeros_there}
use Rattle.cfb_chains.proofs.chain.Chain.zero_tail.Goals as goal

pub returns-in-Ok-clause-zeroed : goal.returns-in-Ok-clause-zeroed
returns-in-Ok-clause-zeroed g c = λ honest once.
    let it = c.args.self.now in
    let v = version_of it in
    let len = c.args.len in
    let long = c.sector_len.ensures ∙ ap sector_len c.version.ensures in
    let some : len % sector_len v ≡ 0 → ⊥ = λ e. c.if-len-sector_len-eq0.false (ap (λ n. len % n) long ∙ e) in
    let inside = inside_yet v len (length (sectors_of it)) (omega (arith, c.if-len.false, c.len.ensures)) some in
    let zeros = zeros_there v len c.place-place.result.1 c.place-place.ensures.left some in
    let fits : length (replicate {A = ℕ} (tail_in v len) 0) ≤ left_in v len = let tail = tail_left v len some in simp length-replicate (omega (arith, tail)) in
    let kept = g.met.H.ChangesSectors.writes_keep _ _ _ _ (c.in-Ok.ensures.writes c.in-Ok.ensures.there) in
    let bytes = (kept.1 c.in-Ok.ensures.not_failed.1).1 honest in
    written_at v _ _ (sectors_of it) (replicate (tail_in v len) 0) len c.place-place.result.0 inside fits once c.place-place.ensures.place
    (bytes ∙ ap (overwritten (g.H.HasSectors.bytes (holder_of it)) c.place-place.result.0) zeros)

pub returns-in-Ok-clause-either : goal.returns-in-Ok-clause-either
returns-in-Ok-clause-either g c =
    let it = c.args.self.now in
    let v = version_of it in
    let len = c.args.len in
    let long = c.sector_len.ensures ∙ ap sector_len c.version.ensures in
    let some : len % sector_len v ≡ 0 → ⊥ = λ e. c.if-len-sector_len-eq0.false (ap (λ n. len % n) long ∙ e) in
    let zeros = zeros_there v len c.place-place.result.1 c.place-place.ensures.left some in
    let W = λ (p : ℕ) (b : List ℕ). g.H.ChangesSectors.writes p b (holder_of it) c.write_part.new.self ⊎ g.H.HasSectors.rests (holder_of it) c.write_part.new.self in
    subst (λ p. W p (replicate (tail_in v len) 0)) c.place-place.ensures.place (subst (W c.place-place.result.0) zeros c.write_part.ensures.either)

pub returns-in-Err-clause-either : goal.returns-in-Err-clause-either
returns-in-Err-clause-either g c =
    let it = c.args.self.now in
    let v = version_of it in
    let len = c.args.len in
    let long = c.sector_len.ensures ∙ ap sector_len c.version.ensures in
    let some : len % sector_len v ≡ 0 → ⊥ = λ e. c.if-len-sector_len-eq0.false (ap (λ n. len % n) long ∙ e) in
    let zeros = zeros_there v len c.place-place.result.1 c.place-place.ensures.left some in
    let W = λ (p : ℕ) (b : List ℕ). g.H.ChangesSectors.writes p b (holder_of it) c.write_part.new.self ⊎ g.H.HasSectors.rests (holder_of it) c.write_part.new.self in
    subst (λ p. W p (replicate (tail_in v len) 0)) c.place-place.ensures.place (subst (W c.place-place.result.0) zeros c.write_part.ensures.either)
