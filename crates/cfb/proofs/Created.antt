-- What a file is that was opened over a medium to which a new file was written.
use Rattle.std.proofs.Common.{◌≡◌, ℕ, ◌+◌, ◌-◌, ◌*◌, ◌<◌, ◌≤◌, List, [], ◌∷◌, ◌++◌, length, take, drop, replicate, ap, sym, subst, ◌∙◌, arith, IsTrue}
use Rattle.std.specs.Prelude.{Result, Ok, Err, IfErr, IfOk}
use Rattle.std.proofs.lemmas.List.{append-nil, drop_all}
use Rattle.cfb_creating.specs.NewFile.{empty_tree, new_file}
use Rattle.cfb_creating.proofs.NewBytes.{length-new_file, long_enough}
use Rattle.cfb_creating.proofs.NewMeaning.{is_header, new_means, new_opens, new_sound}
use Rattle.cfb_fat.specs.Tables.{bytes_of}
use Rattle.cfb_spec.proofs.OneTree.{tree_unique, version_unique}
use Rattle.cfb_spec.specs.Means as meaning
use Rattle.cfb_spec.specs.Sound.{IsSoundContainer}
use Rattle.cfb_medium.specs.Bytes.{overwritten}
use Rattle.cfb_medium.specs.Calls.{Reaches}
use Rattle.cfb_medium.specs.Numbers.{u16_at}
use Rattle.cfb_medium.specs.Versions.{major, sector_len}
use Rattle.cfb_medium.specs.declared.medium.ReadMedium.{Ghosts}
use Rattle.cfb_medium.specs.declared.version.Version.{Version}
use Rattle.cfb_mini.specs.Views.{allocator_of}
use Rattle.cfb_opening.specs.Opened as opening
use Rattle.cfb_ownership.specs.LiveInvariant.{layout_of}
use Rattle.cfb_ownership.proofs.MeansIs.{means_is}
use Rattle.cfb_tree_edits.specs.Live.{live_of}
use Rattle.cfb_sectors.specs.declared.validation.Validation.TheVariants.{Permissive}
use Rattle.cfb_tree.specs.Names.{CaseTable}
use Rattle.cfb_tree.specs.Tree.{Tree}
use Rattle.cfb.specs.Creating.{IsCreated}
use Rattle.cfb.specs.FollowedRules.{FileMeansTree}
use Rattle.cfb.specs.Opened.{IsOpenedAs}
use Rattle.cfb.specs.Views.{file_case_table, mini_of}
use Rattle.cfb.specs.declared.compound_file.CompoundFile.{CompoundFile}
use Rattle.cfb.proofs.Holding.{holds_opened}

-- what three facts of a value give, where there is one
pub if_ok_3 : {T E : Type 0} {P Q R S : T → Type 0} (r : Result T E) → IfOk r P → IfOk r Q → IfOk r R → ((x : T) → P x → Q x → R x → S x) → IfOk r S
if_ok_3 (Ok x) p q r f = f x p q r
if_ok_3 (Err e) p q r f = tt

-- and what two facts of an error give
pub if_err_2 : {T E : Type 0} {P Q S : E → Type 0} (r : Result T E) → IfErr r P → IfErr r Q → ((e : E) → P e → Q e → S e) → IfErr r S
if_err_2 (Ok x) p q f = tt
if_err_2 (Err e) p q f = f e p q

-- bytes written over the front of others stand before those behind them
over_front : (old new : List ℕ) → 0 < length new → overwritten old 0 new ≡ new ++ drop (length new) old
over_front old [] some = absurd (omega (arith, some))
over_front old (x ∷ new) some =
    let none : 0 - length old ≡ 0 = omega arith in
    let all : 0 + length (x ∷ new) ≡ length (x ∷ new) = omega arith in
    ap (λ k. take 0 old ++ replicate k 0 ++ (x ∷ new) ++ drop (0 + length (x ∷ new)) old) none ∙ ap (λ k. (x ∷ new) ++ drop k old) all

some_bytes : (v : Version) → 0 < length (new_file v)
some_bytes v = let long = length-new_file v in let some = long_enough v in omega (arith, long, some)

module _ (v : Version) (letters : CaseTable) (old now : List ℕ) (is : now ≡ overwritten old 0 (new_file v)) where
  behind : now ≡ new_file v ++ drop (length (new_file v)) old
  behind = is ∙ over_front old (new_file v) (some_bytes v)

  pub means_new : meaning.BytesMeanTree letters now empty_tree
  means_new = subst (λ bs. meaning.BytesMeanTree letters bs empty_tree) (sym behind) (new_means v (drop (length (new_file v)) old) letters)

  pub opens_new : meaning.IsOpenable letters now
  opens_new = subst (λ bs. meaning.IsOpenable letters bs) (sym behind) (new_opens v (drop (length (new_file v)) old) letters)

  pub sound_new : length old ≤ 3 * sector_len v → IsSoundContainer letters now
  sound_new few =
      let long = length-new_file v in
      let alone : now ≡ new_file v = behind ∙ ap (λ xs. new_file v ++ xs) (drop_all (length (new_file v)) old (omega (arith, few, long))) ∙ append-nil (new_file v) in
      subst (IsSoundContainer letters) (sym alone) (new_sound v letters)

  pub version_new : (l : meaning.Layout) → meaning.IsLaidOut now l → l.version ≡ v
  version_new l laid =
      let header = subst (λ bs. u16_at bs 26 ≡ major v) (sym behind) (is_header v (drop (length (new_file v)) old)).for_version in
      version_unique l.version v (u16_at now 26) laid.header.for_version header

module _ {F : Type 0} {g : Ghosts F} where
  -- the bytes that a file means mean its tree
  meant_bytes : (it : CompoundFile F g) (tree : Tree) → FileMeansTree it tree → meaning.BytesMeanTree (file_case_table it) (bytes_of (allocator_of (mini_of it))) tree
  unfolding live_of
  meant_bytes it tree m = (layout_of (live_of (mini_of it)) m.live.who m.live.held.root m.live.held.ids, means_is (live_of (mini_of it)) m.live.who (file_case_table it) tree m.live.held)

  pub created_so : (v : Version) (letters : CaseTable) (old mid : F) (it : CompoundFile F g)
      → (IsTrue (g.honest old) → g.bytes mid ≡ overwritten (g.bytes old) 0 (new_file v)) → g.honest mid ≡ g.honest old → Reaches g.continues old mid
      → opening.OpensAt mid (mini_of it) → file_case_table it ≡ letters → (IsTrue (g.honest mid) → IsOpenedAs Permissive letters (g.bytes mid) it)
      → IsCreated v letters old it
  created_so v letters old mid it written same extends opens named opened =
      let so : IsTrue (g.honest old) → IsTrue (g.honest mid) = λ is. subst IsTrue (sym same) is in
      record {
        of_version = λ is.
            let told = (opened (so is)).opened in
            told.shows.version ∙ version_new v letters (g.bytes old) (g.bytes mid) (written is) (opened (so is)).layout told.means.laid_out;
        compared = named;
        live = opens.live;
        honest = opens.honest ∙ same;
        continues = λ start from. opens.continues start (extends start from);
        bytes = λ is. opens.bytes (so is) ∙ written is;
        holds = λ is. holds_opened Permissive letters mid it empty_tree (so is) opens named (opened (so is)) (means_new v letters (g.bytes old) (g.bytes mid) (written is));
        means = λ is few.
            let told = opened (so is) in
            let meant = told.means (told.sound.1 (sound_new v letters (g.bytes old) (g.bytes mid) (written is) few)) in
            let here : meaning.BytesMeanTree letters (g.bytes mid) meant.0 =
            subst (λ bs. meaning.BytesMeanTree letters bs meant.0) (opens.bytes (so is)) (subst (λ n. meaning.BytesMeanTree n (bytes_of (allocator_of (mini_of it))) meant.0) named (meant_bytes it meant.0 meant.1)) in
            let one = tree_unique letters (g.bytes mid) meant.0 empty_tree here (means_new v letters (g.bytes old) (g.bytes mid) (written is)) in
            subst (λ (t : Tree). FileMeansTree it t) one meant.1;
      }
