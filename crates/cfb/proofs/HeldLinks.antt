-- Links that are known to be of an entry's stream.
use Rattle.std.proofs.Common.{◌≡◌, ℕ, ◌*◌, ◌≤◌, length, ap, refl, sym, subst, ◌∙◌, arith}
use Rattle.std.specs.Prelude.{slice_get, None, Option, Some}
use Rattle.cfb_chains.specs.declared.links.Links.{Links}
use Rattle.cfb_medium.specs.Versions.{sector_len}
use Rattle.cfb_medium.specs.declared.medium.ReadMedium.{Ghosts}
use Rattle.cfb_mini.specs.Views.{OnlyReadsMini}
use Rattle.cfb_mini.specs.declared.mini_allocator.MiniAllocator.{MiniAllocator}
use Rattle.cfb_sectors.specs.Sectors.{Chain}
use Rattle.cfb_stream_reads.specs.Streams.{sectors_in}
use Rattle.cfb_stream_reads.specs.declared.opening.StreamLinks.{StreamLinks}
use Rattle.cfb_stream_reads.specs.declared.opening.StreamLinks.TheVariants.{Long, Short}
use Rattle.cfb_stream_writes.specs.Streams.{AreLinksOf}
use Rattle.cfb.specs.Views.{AreHeldFor}

module _ {F : Type 0} {g : Ghosts F} where
  -- links that were found are those of the stream
  pub held_found : (it : MiniAllocator F g) (id : ℕ) (links : StreamLinks) → AreLinksOf id links it → AreHeldFor (Some id) links it
  held_found it id (Short minis) are = tt
  held_found it id (Long links) are = are

  -- known links are the stream's
  pub held_known : (it : MiniAllocator F g) (known : Option ℕ) (links : StreamLinks) (long : Links) (other id : ℕ) → known ≡ Some other → links ≡ Long long → other ≡ id → AreHeldFor known links it → AreLinksOf id links it
  held_known it known links long other id is_known is same are =
      subst (λ n. AreLinksOf n links it) same
      (subst (λ l. AreLinksOf other l it) (sym is) (subst (λ l. AreHeldFor (Some other) l it) is (subst (λ o. AreHeldFor o links it) is_known are)))

  -- so are those of a stream that is written, where no other is known
  pub held_written : (it : MiniAllocator F g) (id : ℕ) (known : Option ℕ) (links : StreamLinks) → ((other : ℕ) → known ≡ Some other → other ≡ id) → AreLinksOf id links it → AreHeldFor known links it
  held_written it id None links one are = tt
  held_written it id (Some other) (Short minis) one are = tt
  held_written it id (Some other) (Long links) one are = subst (λ n. AreLinksOf n (Long links) it) (sym (one other refl)) are

  -- they stay so where the file is only read
  pub held_read : (a b : MiniAllocator F g) → OnlyReadsMini a b → (known : Option ℕ) (links : StreamLinks) → AreHeldFor known links a → AreHeldFor known links b
  held_read a b r None links are = tt
  held_read a b r (Some id) (Short minis) are = tt
  held_read a b r (Some id) (Long links) are = λ e found.
      let was = are e (ap (λ es. slice_get es id) (sym r.directory.entries) ∙ found) in
      let layer = r.directory.allocator in
      let version = layer.sectors.version in
      let up = was.1.0 in (
        record {
          short = λ below. absurd (omega (arith, below, up));
          long = λ _.
              let at = was.0.long up in (
                subst (λ t. Chain t e.start (sectors_in (Long links))) (sym layer.fat) at.0,
                subst (λ v. e.size ≤ length (sectors_in (Long links)) * sector_len v) (sym version) at.1,
              );
        },
        (up, was.1.1 ∙ sym version),
      )
