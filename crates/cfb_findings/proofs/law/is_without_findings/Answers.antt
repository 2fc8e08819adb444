use Rattle.std.proofs.Common.{◌++◌, ◌+◌, length, min, ◌≡◌, [], refl, subst}
use Rattle.std.specs.Prelude.{IsTrue}
use Rattle.cfb_sectors.specs.Held.{count_of}
use Rattle.cfb_sectors.specs.Sectors.{greatest_regular}
use Rattle.cfb_fat.specs.Tables.{sectors_of}
use Rattle.cfb_mini.specs.Views.{allocator_of, mini_fat_of}
use Rattle.cfb_soundness.specs.Views.{table_sectors}
use Rattle.cfb_findings.specs.Findings.{shared}
use Rattle.cfb_soundness.proofs.InMemory.{judged_so}
use Rattle.cfb_findings.specs.Broken.{AreBroken}
use Rattle.cfb_findings.specs.Seen.{tables_seen}
use Rattle.cfb_findings.proofs.NoneFound.{broken_one, chains_one, judged_apart, judged_marked, judged_minis, judged_whole}
use Rattle.cfb_findings.proofs.SoundFile.{broken_in, sound_from_none, tree_has}
use Rattle.cfb_findings.proofs.law.is_without_findings.Goals as goal

pub returns-then-not-covered-clause-sound : goal.returns-then-not-covered-clause-sound
returns-then-not-covered-clause-sound g c = λ letters l tree so len m. (
  (λ wrong. absurd (cc)),
  (λ sound.
      let j = judged_so c.args.file.now c.args.file_len letters l tree so len m sound in
      let has = tree_has c.args.file.now c.args.file_len letters l tree so len m in
      let right : IsTrue c.in_ok-covered.covered = c.in_ok-covered.ensures.covered.1 j.covers in absurd (cc)),
)

pub returns-then-not-marked-clause-sound : goal.returns-then-not-marked-clause-sound
returns-then-not-marked-clause-sound g c = λ letters l tree so len m. (
  (λ wrong. absurd (cc)),
  (λ sound.
      let j = judged_so c.args.file.now c.args.file_len letters l tree so len m sound in
      let has = tree_has c.args.file.now c.args.file_len letters l tree so len m in
      let right : IsTrue c.in_ok-marked.marked = c.in_ok-marked.ensures.marked.1 (judged_marked _ _ _ _ _ _ j) in absurd (cc)),
)

pub returns-then-not-whole-clause-sound : goal.returns-then-not-whole-clause-sound
returns-then-not-whole-clause-sound g c = λ letters l tree so len m. (
  (λ wrong. absurd (cc)),
  (λ sound.
      let j = judged_so c.args.file.now c.args.file_len letters l tree so len m sound in
      let has = tree_has c.args.file.now c.args.file_len letters l tree so len m in
      let right : IsTrue c.in_ok-whole.whole = (let k = c.in_ok-whole.ensures.whole l.entries has in k.tells (judged_whole _ _ _ _ _ _ j k.found (broken_in c.args.file.now c.args.file_len letters l tree so len m k.found k.is))) in absurd (cc)),
)

pub returns-then-not-apart-clause-sound : goal.returns-then-not-apart-clause-sound
returns-then-not-apart-clause-sound g c = λ letters l tree so len m. (
  (λ wrong. absurd (cc)),
  (λ sound.
      let j = judged_so c.args.file.now c.args.file_len letters l tree so len m sound in
      let has = tree_has c.args.file.now c.args.file_len letters l tree so len m in
      let right : IsTrue c.in_ok-apart.apart = (let k = c.in_ok-apart.ensures.apart l.entries has in k.tells (judged_apart _ _ _ _ _ _ j k.streams k.chains)) in absurd (cc)),
)

pub returns-then-not-minis_apart-clause-sound : goal.returns-then-not-minis_apart-clause-sound
returns-then-not-minis_apart-clause-sound g c = λ letters l tree so len m. (
  (λ wrong. absurd (cc)),
  (λ sound.
      let j = judged_so c.args.file.now c.args.file_len letters l tree so len m sound in
      let has = tree_has c.args.file.now c.args.file_len letters l tree so len m in
      let right : IsTrue c.in_ok-minis_apart.minis_apart = (let k = c.in_ok-minis_apart.ensures.apart l.entries has in k.tells (judged_minis _ _ _ _ _ _ j k.streams k.chains)) in absurd (cc)),
)

pub returns-clause-sound : goal.returns-clause-sound
returns-clause-sound g c = λ letters l tree so len m.
    let file = c.args.file.now in
    let has = tree_has file c.args.file_len letters l tree so len m in
    let whole = c.in_ok-whole.ensures.whole l.entries has in
    let apart = c.in_ok-apart.ensures.apart l.entries has in
    let minis = c.in_ok-minis_apart.ensures.apart l.entries has in (
      (λ _. sound_from_none file c.args.file_len letters l tree so len m
          (c.in_ok-covered.ensures.covered.0 c.if-not-covered.false) (c.in_ok-marked.ensures.marked.0 c.if-not-marked.false)
          (subst (AreBroken (tables_seen file c.args.file_len) l.entries) (whole.empty c.if-not-whole.false) whole.is)
          apart.streams minis.streams apart.chains (apart.empty c.if-not-apart.false) minis.chains (minis.empty c.if-not-minis_apart.false)),
      (λ sound. refl),
    )

pub returns-then-not-covered-clause-none : goal.returns-then-not-covered-clause-none
returns-then-not-covered-clause-none g c = λ ids tree. (
  (λ wrong. absurd (cc)),
  (λ h. let right : IsTrue c.in_ok-covered.covered = c.in_ok-covered.ensures.covered.1 h.covered in absurd (cc)),
)

pub returns-then-not-marked-clause-none : goal.returns-then-not-marked-clause-none
returns-then-not-marked-clause-none g c = λ ids tree. (
  (λ wrong. absurd (cc)),
  (λ h. let right : IsTrue c.in_ok-marked.marked = c.in_ok-marked.ensures.marked.1 h.marked in absurd (cc)),
)

pub returns-then-not-whole-clause-none : goal.returns-then-not-whole-clause-none
returns-then-not-whole-clause-none g c = λ ids tree. (
  (λ wrong. absurd (cc)),
  (λ h. let right : IsTrue c.in_ok-whole.whole = (let k = c.in_ok-whole.ensures.whole ids tree in k.tells (broken_one (tables_seen c.args.file.now c.args.file_len) ids k.found [] k.is h.whole)) in absurd (cc)),
)

pub returns-then-not-apart-clause-none : goal.returns-then-not-apart-clause-none
returns-then-not-apart-clause-none g c = λ ids tree. (
  (λ wrong. absurd (cc)),
  (λ h. let right : IsTrue c.in_ok-apart.apart = (let k = c.in_ok-apart.ensures.apart ids tree in k.tells (subst (λ l. shared (count_of (sectors_of (allocator_of c.args.file.now))) (table_sectors c.args.file.now ++ l) ≡ []) (chains_one _ _ h.streams k.streams h.chains k.chains) h.apart)) in absurd (cc)),
)

pub returns-then-not-minis_apart-clause-none : goal.returns-then-not-minis_apart-clause-none
returns-then-not-minis_apart-clause-none g c = λ ids tree. (
  (λ wrong. absurd (cc)),
  (λ h. let right : IsTrue c.in_ok-minis_apart.minis_apart = (let k = c.in_ok-minis_apart.ensures.apart ids tree in k.tells (subst (λ l. shared (min (length (mini_fat_of c.args.file.now)) (greatest_regular + 1)) l ≡ []) (chains_one _ _ h.minis k.streams h.mini_chains k.chains) h.minis_apart)) in absurd (cc)),
)

pub returns-clause-none : goal.returns-clause-none
returns-clause-none g c = λ ids tree.
    let whole = c.in_ok-whole.ensures.whole ids tree in
    let apart = c.in_ok-apart.ensures.apart ids tree in
    let minis = c.in_ok-minis_apart.ensures.apart ids tree in (
      (λ _. record {
        covered = c.in_ok-covered.ensures.covered.0 c.if-not-covered.false;
        marked = c.in_ok-marked.ensures.marked.0 c.if-not-marked.false;
        whole = subst (AreBroken (tables_seen c.args.file.now c.args.file_len) ids) (whole.empty c.if-not-whole.false) whole.is;
        streams = apart.streams;
        chains = apart.chains;
        apart = apart.empty c.if-not-apart.false;
        minis = minis.streams;
        mini_chains = minis.chains;
        minis_apart = minis.empty c.if-not-minis_apart.false;
      }),
      (λ h. refl),
    )
