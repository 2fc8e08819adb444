use Rattle.std.proofs.Common.{◌∙◌, sym, ap, map, Ok, refl}
use Rattle.msi_props.specs.Held.{head_in, pair_stored}
use Rattle.msi_props.specs.Props.{all_give_back, read_under}
use Rattle.msi_texts.specs.Results.{◌>>=◌}
use Rattle.msi_props.proofs.SetReading.{set_read}
use Rattle.msi_props.proofs.propset.PropertySet.read.Goals as goal

pub returns-clause-read : goal.returns-clause-read
returns-clause-read c =
    let stored = set_read c.args.bytes.now c.behind-section.result.now (head_in c.in_ok-head.head) c.in_ok-pairs.pairs.items c.in_ok-codepage.codepage (map pair_stored c.in_ok-stored.stored.items)
    c.in_ok-head.ensures c.behind-section.ensures c.in_ok-pairs.ensures (rw c.deref.ensures.value at c.in_ok-codepage.ensures) (rw c.deref-2.ensures.value at c.in_ok-stored.ensures) in
    let values = rw c.deref-3.ensures.value at c.in_ok-values_under.ensures.ok in
    ap (λ r. r >>= λ s. Ok (read_under s)) stored ∙ rw values refl

pub returns-clause-whole : goal.returns-clause-whole
returns-clause-whole c =
    let stored = set_read c.args.bytes.now c.behind-section.result.now (head_in c.in_ok-head.head) c.in_ok-pairs.pairs.items c.in_ok-codepage.codepage (map pair_stored c.in_ok-stored.stored.items)
    c.in_ok-head.ensures c.behind-section.ensures c.in_ok-pairs.ensures (rw c.deref.ensures.value at c.in_ok-codepage.ensures) (rw c.deref-2.ensures.value at c.in_ok-stored.ensures) in
    let whole = rw c.deref-4.ensures.value at c.in_ok-all_give_back.ensures.ok in
    whole ∙ sym (ap all_give_back stored)
