use Rattle.std.proofs.Common.{◌≡◌, ◌++◌, length, take, ap, ◌∙◌, arith}
use Rattle.std.specs.Prelude.{Result, Ok, Err, IsOk, IfOk, IfErr}
use Rattle.std.proofs.lemmas.List.{take_all}
use Rattle.cfb_tree.specs.Directory.{Entry, entry_bytes, entry_of}
use Rattle.cfb_tree.specs.EntryViews.{entry_in}
use Rattle.cfb_tree.specs.declared.entry.DirEntry.{DirEntry}
use Rattle.cfb_tree.proofs.EntryRead.{entry_again, length-entry_bytes}
use Rattle.cfb_tree.proofs.entry.entry_again.Goals as goal

if_same : {E : Type 0} (r : Result DirEntry E) (a b : Entry) → a ≡ b → IfOk r (λ e. entry_in e ≡ a) → IfOk r (λ e. entry_in e ≡ b)
if_same (Ok x) a b same h = h ∙ same
if_same (Err e) a b same h = h

no_error : {A E : Type 0} (r : Result A E) (P : E → Type 0) → IsOk r → IfErr r P
no_error (Ok x) P h = tt
no_error (Err e) P h = absurd (cc)

written : (c : goal.After-drop-bytes-2) → c.as_slice-reader.result.now ≡ entry_bytes (entry_in c.args.entry)
written c = c.as_slice-reader.ensures.value ∙ c.in_ok-write_to.ensures.ok ∙ ap (λ xs. xs ++ entry_bytes (entry_in c.args.entry)) c.new-bytes.ensures.items

pub returns-clause-same : goal.returns-clause-same
returns-clause-same c =
    let e = entry_in c.args.entry in
    let long = length-entry_bytes c.args.version e c.fits.ensures in
    if_same _ _ e (ap (λ xs. entry_of c.args.version (take 128 xs)) (written c) ∙ ap (entry_of c.args.version) (take_all 128 (entry_bytes e) (omega (arith, long))) ∙ entry_again c.args.version e c.fits.ensures) c.read_from.ensures.read

pub returns-clause-errors : goal.returns-clause-errors
returns-clause-errors c =
    let long = ap length (written c) ∙ length-entry_bytes c.args.version (entry_in c.args.entry) c.fits.ensures in
    no_error _ _ (c.read_from.ensures.whole.1 (omega (arith, long)))
