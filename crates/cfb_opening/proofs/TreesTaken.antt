-- A tree that bytes mean is one that a reader takes, and the other way round.
use Rattle.std.proofs.Common.{◌≡◌, ◌⊎◌, ℕ, List, [], ◌∷◌, inl, inr, refl, sym, subst}
use Rattle.std.specs.Prelude.{slice_get, Option, None, Some, IfSome}
use Rattle.std.specs.List.{AllByRecursion}
use Rattle.cfb_sectors.specs.declared.validation.Validation.{Validation}
use Rattle.cfb_sectors.specs.declared.validation.Validation.TheVariants.{Permissive, Strict}
use Rattle.cfb_tree.specs.Names.{CaseTable}
use Rattle.cfb_tree.specs.Tree.{nothing, storage, stream, Content, Tree}
use Rattle.cfb_tree.specs.Directory.{black, kind_storage, kind_stream, red, Entry, Holds}
use Rattle.cfb_tree.specs.Entries.{IsBlackAt, IsColored}
use Rattle.cfb_tree.proofs.NamesRead.{all_append}
use Rattle.cfb_directory.specs.Taken.{HasAny, IsTakenAs, IsTakenAsRoot, IsTakenIn}
use Rattle.cfb_spec.specs.Means.{directory, IsStrict, Layout, BytesMeanTreeBy}
use Rattle.cfb_opening.specs.Opened.{CanOpen}

-- a layout in which the bytes mean a tree, and what a strict reader asks of it
pub record OpensBy (validation : Validation) (letters : CaseTable) (b : List ℕ) : Type 0 where
  pub l : Layout
  pub tree : Tree
  pub means : BytesMeanTreeBy l HasAny letters b tree
  pub strict : validation ≡ Strict → IsStrict b l

pub opens_by : (validation : Validation) (letters : CaseTable) (b : List ℕ) → CanOpen validation letters b → OpensBy validation letters b
opens_by Permissive letters b (l, tree, means) = record { l = l; tree = tree; means = means; strict = λ wrong. absurd (cc) }
opens_by Strict letters b (l, tree, means, strict) = record { l = l; tree = tree; means = means; strict = λ is. strict }

abbrev IsKind : Entry → Type 0
IsKind e = (e.kind ≡ kind_storage) ⊎ (e.kind ≡ kind_stream)

kind_at : (entries : List Entry) (id : ℕ) (e : Entry) → slice_get entries id ≡ Some e → IsKind e → IfSome (slice_get entries id) IsKind
kind_at entries id e found is = subst (λ o. IfSome o IsKind) (sym found) is

kinds : (entries : List Entry) (Reads : Entry → List ℕ → Type 0) (content : Content) (ids all : List ℕ) → Holds entries Reads ids content all
    → AllByRecursion (λ id. IfSome (slice_get entries id) IsKind) all
kinds entries Reads nothing ids all (none, is) = subst (AllByRecursion (λ id. IfSome (slice_get entries id) IsKind)) (sym is) tt
kinds entries Reads (stream name bits bytes later) ids all (e, id, others, rest, is, whole, at, reads, then) =
    subst (AllByRecursion (λ id. IfSome (slice_get entries id) IsKind)) (sym whole) (kind_at entries id e at.found (inr at.of_kind), kinds entries Reads later others rest then)
kinds entries Reads (storage name facts inside later) ids all (e, id, others, children, within, rest, is, whole, at, siblings, in_it, then) =
    subst (AllByRecursion (λ id. IfSome (slice_get entries id) IsKind)) (sym whole)
    (kind_at entries id e at.found (inl at.of_kind), all_append (λ id. IfSome (slice_get entries id) IsKind) within rest (kinds entries Reads inside children within in_it) (kinds entries Reads later others rest then))

both : (entries : List Entry) (o : Option Entry) → IfSome o IsKind
    → IfSome o (λ e. ((e.color ≡ red) ⊎ (e.color ≡ black)) × (e.color ≡ red → IsBlackAt entries e.left × IsBlackAt entries e.right)) → IfSome o (IsTakenIn Strict entries)
both entries None kind color = tt
both entries (Some e) kind color = ((kind, color.0), color.1)

all_both : (entries : List Entry) (ids : List ℕ) → AllByRecursion (λ id. IfSome (slice_get entries id) IsKind) ids → AllByRecursion (IsColored entries) ids
    → AllByRecursion (λ id. IfSome (slice_get entries id) (IsTakenIn Strict entries)) ids
all_both entries [] kind color = tt
all_both entries (id ∷ ids) kind color = (both entries (slice_get entries id) kind.0 color.0, all_both entries ids kind.1 color.1)

colored : (entries : List Entry) (o : Option Entry) → IfSome o (IsTakenIn Strict entries)
    → IfSome o (λ e. ((e.color ≡ red) ⊎ (e.color ≡ black)) × (e.color ≡ red → IsBlackAt entries e.left × IsBlackAt entries e.right))
colored entries None taken = tt
colored entries (Some e) taken = (taken.0.1, taken.1)

pub all_colored : (entries : List Entry) (ids : List ℕ) → AllByRecursion (λ id. IfSome (slice_get entries id) (IsTakenIn Strict entries)) ids → AllByRecursion (IsColored entries) ids
all_colored entries [] taken = tt
all_colored entries (id ∷ ids) taken = (colored entries (slice_get entries id) taken.0, all_colored entries ids taken.1)

module _ (letters : CaseTable) (b : List ℕ) (l : Layout) (tree : Tree) (means : BytesMeanTreeBy l HasAny letters b tree) where
  root_taken : (validation : Validation) → (validation ≡ Strict → IsStrict b l) → IsTakenAsRoot validation l.root
  root_taken Permissive strict = means.laid_out.root_kind
  root_taken Strict strict = let is = strict refl in ((means.laid_out.root_kind, is.root_color), is.root_name)

  below_taken : (validation : Validation) → (validation ≡ Strict → IsStrict b l) → AllByRecursion (λ id. IfSome (slice_get (directory b l) id) (IsTakenIn validation (directory b l))) l.entries
  below_taken Permissive strict = kinds (directory b l) HasAny tree.content means.children l.entries means.holds
  below_taken Strict strict = all_both (directory b l) l.entries (kinds (directory b l) HasAny tree.content means.children l.entries means.holds) (strict refl).colors

  -- a reader takes the directory as the tree
  pub taken_as : (validation : Validation) → (validation ≡ Strict → IsStrict b l) → IsTakenAs validation letters HasAny (directory b l) tree
  taken_as validation strict = record {
    holds = record {
      root = l.root;
      root_found = means.laid_out.root_found;
      root_kind = means.laid_out.root_kind;
      facts = means.facts;
      children = means.children;
      ids = l.entries;
      siblings = means.siblings;
      holds = means.holds;
      once = means.once;
      ordered = means.ordered;
    };
    root = root_taken validation strict;
    below = below_taken validation strict;
  }
