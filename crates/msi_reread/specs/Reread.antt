-- A package's tree whose texts stand in UTF-8, as code pages of one's choice read them.
use Rattle.std.specs.Prelude.{◌≡◌, ◌⊎◌, ℕ, List, [], ◌∷◌, Option, Some, None, Result, Ok, Err, MatchResult}
use Rattle.cfb.specs.Putting.{rewriting}
use Rattle.cfb_medium.specs.Calls.{IsFaultOrInvalidInputIf}
use Rattle.cfb_medium.specs.declared.error.Error.{Error}
use Rattle.cfb_medium.specs.declared.error.Error.TheVariants.{NotFound}
use Rattle.cfb_tree.specs.Names.{CaseTable}
use Rattle.cfb_tree.specs.Tree.{Tree}
use Rattle.msi_spec.specs.Package.{data_name, objects, pool_name, stream_at, stream_name, summary_name, table_stream}
use Rattle.msi_texts.specs.Results.{◌>>=◌, or_refused}
use Rattle.reread_texts.specs.Pools.{pool_reread}
use Rattle.reread_texts.specs.Pools as pools
use Rattle.reread_texts.specs.Sets.{set_reread}
use Rattle.reread_texts.specs.Sets as sets
use Rattle.reread_texts.specs.Told.{told_in_utf8}
use Rattle.reread_texts.specs.declared.page.TextPage.{TextPage}

-- what was read is what the definition gives, or it is refused as that refuses; or there was a fault
abbrev pub IsReadAs : {X Y : Type 0} → (X → Y) → Result X Error → Result Y Error → Type 0
IsReadAs see result defined = MatchResult result (λ x. defined ≡ Ok (see x)) (λ e. IsFaultOrInvalidInputIf ⊥ e ⊎ (defined ≡ Err e))

module _ (letters : CaseTable) where
  -- what a page makes of the two streams of the pool, or why they can't be read
  abbrev pub texts_after : TextPage → Tree → List ℕ → Result pools.Rewritten Error
  texts_after p tree pool = or_refused (table_stream letters (objects tree.content) data_name) NotFound >>= λ texts. pool_reread p pool texts

  abbrev pub texts_by : TextPage → Tree → Result pools.Rewritten Error
  texts_by p tree = or_refused (table_stream letters (objects tree.content) pool_name) NotFound >>= texts_after p tree

  -- what it makes of the summary, whatever page that tells
  abbrev pub summary_by : TextPage → Tree → Result sets.Rewritten Error
  summary_by p tree = or_refused (stream_at letters (objects tree.content) summary_name) NotFound >>= λ bytes. set_reread p (told_in_utf8 bytes)

  -- the tree with these bytes in the place of those of a stream under its root ([MS-CFB] 2.6.3)
  abbrev pub with_stream : List ℕ → List ℕ → Tree → Tree
  with_stream name bytes tree = (rewriting bytes letters tree (name ∷ [])).0

  -- and of those of both streams of the pool
  abbrev pub with_texts : List ℕ → List ℕ → Tree → Tree
  with_texts pool texts tree = with_stream (stream_name data_name) texts (with_stream (stream_name pool_name) pool tree)

  -- THE TEXTS OF TABLES ARE REREAD: both streams of the pool have the texts in UTF-8, as the page reads them, all else is as it was; and the places of
  -- the texts of which bytes have no character
  pub record AreTextsReread (p : TextPage) (tree after : Tree) (lacking : List ℕ) : Type 0 where
    pub streams : pools.Rewritten
    pub read : texts_by p tree ≡ Ok streams
    pub put : after ≡ with_texts streams.0 streams.1 tree
    pub lacks : lacking ≡ streams.2

  -- THE SUMMARY IS REREAD: so its texts stand, and the numbers of the properties of which bytes have no character
  pub record IsSummaryReread (p : TextPage) (tree after : Tree) (lacking : List ℕ) : Type 0 where
    pub set : sets.Rewritten
    pub read : summary_by p tree ≡ Ok set
    pub put : after ≡ with_stream summary_name set.0 tree
    pub lacks : lacking ≡ set.1

  -- both streams of the pool are there, and that of the summary is
  pub record HasPoolStreams (tree : Tree) : Type 0 where
    pub pool : List ℕ
    pub texts : List ℕ
    pub pool_at : stream_at letters (objects tree.content) (stream_name pool_name) ≡ Some pool
    pub data_at : stream_at letters (objects tree.content) (stream_name data_name) ≡ Some texts

  pub record HasSummaryStream (tree : Tree) : Type 0 where
    pub bytes : List ℕ
    pub at : stream_at letters (objects tree.content) summary_name ≡ Some bytes

  -- each part by its page, where it has one; one without a page stays as it is
  abbrev pub TextsStep : Option TextPage → Tree → Tree → List ℕ → Type 0
  TextsStep None tree after lacking = (after ≡ tree) × (lacking ≡ [])
  TextsStep (Some p) tree after lacking = AreTextsReread p tree after lacking

  abbrev pub SummaryStep : Option TextPage → Tree → Tree → List ℕ → Type 0
  SummaryStep None tree after lacking = (after ≡ tree) × (lacking ≡ [])
  SummaryStep (Some p) tree after lacking = IsSummaryReread p tree after lacking

  -- THE TREE IS REREAD: first the texts of tables, and then the summary
  pub record IsReread (texts summary : Option TextPage) (tree after : Tree) (lacking unread : List ℕ) : Type 0 where
    pub between : Tree
    pub first : TextsStep texts tree between lacking
    pub second : SummaryStep summary between after unread
