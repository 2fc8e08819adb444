-- A tree stays one where less is said of its streams' bytes.
use Rattle.std.proofs.Common.{◌≡◌, ℕ, List, length, arith}
use native.Mathlib.Decide.{dec_lt}
use mathlib.Core.Logic.{dite}
use Rattle.cfb_sectors.specs.Header.{mini_cutoff}
use Rattle.cfb_tree.specs.Names.{CaseTable}
use Rattle.cfb_tree.specs.Tree.{nothing, storage, stream, Content, Tree}
use Rattle.cfb_tree.specs.Directory.{Entry, Holds}
use Rattle.cfb_spec.specs.Means.{directory, HasBytes, Layout, BytesMeanTreeBy}

module _ (Reads Less : Entry → List ℕ → Type 0) (so : (e : Entry) (content : List ℕ) → Reads e content → Less e content) where
  holds_less : (entries : List Entry) (content : Content) (ids all : List ℕ) → Holds entries Reads ids content all → Holds entries Less ids content all
  holds_less entries nothing ids all h = h
  holds_less entries (stream name bits bytes later) ids all (e, id, others, rest, is, whole, at, reads, then) =
      (e, id, others, rest, is, whole, at, so e bytes reads, holds_less entries later others rest then)
  holds_less entries (storage name facts inside later) ids all (e, id, others, children, within, rest, is, whole, at, siblings, in_it, then) =
      (e, id, others, children, within, rest, is, whole, at, siblings, holds_less entries inside children within in_it, holds_less entries later others rest then)

  pub means_less : (l : Layout) (letters : CaseTable) (b : List ℕ) (tree : Tree) → BytesMeanTreeBy l Reads letters b tree → BytesMeanTreeBy l Less letters b tree
  means_less l letters b tree m = record {
    laid_out = m.laid_out;
    facts = m.facts;
    children = m.children;
    siblings = m.siblings;
    holds = holds_less (directory b l) tree.content m.children l.entries m.holds;
    once = m.once;
    ordered = m.ordered;
  }

pub bytes_have_size : (b : List ℕ) (l : Layout) (e : Entry) (content : List ℕ) → HasBytes b l e content → length content ≡ e.size
bytes_have_size b l e content h = dite (dec_lt e.size mini_cutoff) (λ short. (h.short short).whole) (λ long. (h.long (omega arith)).whole)
