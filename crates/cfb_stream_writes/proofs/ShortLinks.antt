-- The mini sectors that a short stream is opened with are those that it owns.
use Rattle.std.proofs.Common.{◌≡◌, ℕ, ◌*◌, ◌<◌, ◌≤◌, List, length, ap, sym, subst, ◌∙◌, arith}
use Rattle.cfb_tree_edits.specs.Freeing.{HasFileInvariant}
use Rattle.cfb_tree_edits.specs.Live.{live_of}
use Rattle.cfb_tree_edits.proofs.Freed.{own_minis}
use Rattle.cfb_medium.specs.declared.medium.ReadMedium.{Ghosts}
use Rattle.cfb_mini.specs.LinkViews.{minis_of}
use Rattle.cfb_mini.specs.Minis.{AreInside}
use Rattle.cfb_mini.specs.Views.{mini_fat_of, mini_stream_len, mini_stream_of}
use Rattle.cfb_mini.specs.declared.links.MiniLinks.{MiniLinks}
use Rattle.cfb_mini.specs.declared.mini_allocator.MiniAllocator.{MiniAllocator}
use Rattle.cfb_mini.proofs.MiniParts.{length-mini_joined}
use Rattle.cfb_ownership.specs.Held.{mini_joined as held_joined, OwnerHasStream}
use Rattle.cfb_ownership.specs.Owners.{stream_owner, Owners}
use Rattle.cfb_sectors.specs.Header.{mini_cutoff}
use Rattle.cfb_sectors.specs.Sectors.{Chain}
use Rattle.cfb_stream_reads.specs.Streams.{IsOfLevel, StreamLiesIn}
use Rattle.cfb_stream_reads.specs.declared.opening.StreamLinks.TheVariants.{Short}
use Rattle.cfb_tree.specs.Directory.{Entry}
use Rattle.cfb_stream_writes.proofs.LongStreams.{fits_in}
use Rattle.cfb_stream_writes.proofs.ShortStreams.{held_is}
use Rattle.cfb_sectors.proofs.OneChain.{chain_unique}

module _ {F : Type 0} {g : Ghosts F} where
  -- the stream lies in the mini sectors that it owns
  pub short_links : (it : MiniAllocator F g) (who : Owners) (m : HasFileInvariant it who) (id : ℕ) (e : Entry) (content : List ℕ) (links : MiniLinks) → OwnerHasStream (live_of it) who id e content → e.size < mini_cutoff
      → who.minis (stream_owner id) ≡ minis_of links → StreamLiesIn it e.start e.size (minis_of links) × IsOfLevel it e.size (Short links)
  short_links it who m id e content links has below is =
      let lay = (has.short below).1 in
      let own = who.minis (stream_owner id) in
      let mine = own_minis it who m (stream_owner id) in
      let chain : Chain (mini_fat_of it) e.start own = subst (λ n. Chain (mini_fat_of it) n own) (sym lay.start) mine.linked in
      let size : e.size ≤ length (held_joined (live_of it) who own) = fits_in e.size content (held_joined (live_of it) who own) lay.content_is lay.whole in
      let room : e.size ≤ 64 * length own = subst (λ n. e.size ≤ n) (ap length (held_is it who m (stream_owner id)) ∙ length-mini_joined (mini_stream_of it) own) size in (
        record {
          short = λ few. (subst (Chain (mini_fat_of it) e.start) is chain, subst (AreInside (mini_stream_len it)) is mine.inside, subst (λ l. e.size ≤ 64 * length l) is room);
          long = λ up. absurd (let high = up in omega (arith, high, below));
        },
        below,
      )

  -- and the other way round
  pub owns_minis : (it : MiniAllocator F g) (who : Owners) (m : HasFileInvariant it who) (id : ℕ) (e : Entry) (content : List ℕ) (links : MiniLinks) → OwnerHasStream (live_of it) who id e content
      → StreamLiesIn it e.start e.size (minis_of links) × IsOfLevel it e.size (Short links) → who.minis (stream_owner id) ≡ minis_of links
  owns_minis it who m id e content links has (lies, below) =
      let lay = (has.short below).1 in
      let own = who.minis (stream_owner id) in
      let chain : Chain (mini_fat_of it) e.start own = subst (λ n. Chain (mini_fat_of it) n own) (sym lay.start) (own_minis it who m (stream_owner id)).linked in
      chain_unique (mini_fat_of it) e.start own (minis_of links) chain (lies.short below).0
