-- An elector that decides with its verdict: since a member had decided, or since it is a quorum by itself.
use Rattle.std.proofs.Common.{◌≡◌, ◌==◌, ◌&&◌, ◌⊎◌, inl, inr, ◌++◌, ◌∷◌, [], ℕ, Bool, true, false, List, ◌∙◌, ap, sym, subst, refl, append_assoc, nat_lt, if◌then◌else◌}
use Rattle.e3_types.specs.declared.entries.Told.TheVariants as told
use Rattle.e3_types.specs.declared.messages.Message.TheVariants as msg
use Rattle.e3_types.specs.declared.records.Record.{Record}
use Rattle.e3_types.specs.declared.records.Record.TheVariants as log
use Rattle.e3_types.specs.declared.transactions.Dir.{Dir}
use Rattle.e3_types.specs.declared.transactions.Dir.TheVariants.{Abort, Commit}
use Rattle.e3_types.specs.declared.transactions.Txn.{Txn}
use Rattle.e3_types.specs.declared.verdicts.SiteReport.{SiteReport}
use Rattle.e3_types.specs.Quorums.{is_quorum}
use Rattle.e3_types.specs.Verdicts.{verdict_of}
use Rattle.e3_world.specs.declared.lives.At.{At}
use Rattle.e3_world.specs.declared.lives.Made.{Made}
use Rattle.e3_world.specs.ElectionRules.{and_verdict}
use Rattle.e3_world.specs.Logs.{is_undecided, last_attempt, last_elected}
use Rattle.e3_world.specs.Making.{and_cast, and_decide, and_record, and_tell, is_coordinator, is_present, may_decide}
use Rattle.e3_laws.proofs.rounds.Phases.Decided.{decides_now, fits}
use Rattle.e3_laws.proofs.rounds.Phases.Rows.{makes}
use Rattle.e3_laws.proofs.rounds.Phases.Turning.{Concludes}
use Rattle.e3_laws.proofs.rounds.Phases.Winning.{final_of, pre_of}

-- the verdict is told, behind these records
abbrev pub told_final : Txn → ℕ → Dir → List Record → Made
told_final t n dir rs = and_tell (told.Verdict t n (final_of dir)) (makes rs [])

abbrev pub told_pre : Txn → ℕ → Dir → List Record → Made
told_pre t n dir rs = and_tell (told.Verdict t n (pre_of dir)) (makes rs [])

may_be : (a : At) (t : Txn) (n : ℕ) (dir : Dir) (rs : List Record) → may_decide a t dir (told_final t n dir rs) ≡ (is_undecided t (a.life.log ++ rs) && fits t dir (a.life.log ++ rs))
may_be a t n Abort rs = one (is_undecided t (a.life.log ++ rs))
  where
    one : (b : Bool) → b ≡ (b && true)
    one true = refl
    one false = refl
may_be a t n Commit rs = refl

-- a member had decided: the elector decides alike, unless it had
abbrev pub final_choice : At → Txn → ℕ → Dir → List Record → Made
final_choice a t n dir rs = if may_decide a t dir (told_final t n dir rs) then and_decide a t dir (told_final t n dir rs) else told_final t n dir rs

pub final_is : (a : At) (t : Txn) (n : ℕ) (group : List ℕ) (reports : List SiteReport) (dir : Dir) (rs : List Record) → verdict_of a.weights t.sites reports ≡ final_of dir →
    and_verdict a t n group reports (makes rs []) ≡ and_cast a group (msg.Decide t dir) (final_choice a t n dir rs)
final_is a t n group reports Commit rs is = rw is refl
final_is a t n group reports Abort rs is = rw is refl

pub final_concludes : (a : At) (t : Txn) (n : ℕ) (dir : Dir) (rs : List Record) →
    (is_undecided t (a.life.log ++ rs) ≡ false) ⊎ (fits t dir (a.life.log ++ rs) ≡ true) → Concludes t n (final_of dir) a.life.log (final_choice a t n dir rs)
final_concludes a t n dir rs either = by (may_decide a t dir (told_final t n dir rs)) refl
  where
    decides : is_undecided t (a.life.log ++ (rs ++ log.Decision t dir ∷ [])) ≡ false
    decides = ap (is_undecided t) (sym (append_assoc a.life.log rs (log.Decision t dir ∷ []))) ∙ decides_now t (a.life.log ++ rs) dir

    choose : (b : Bool) → (is_coordinator a t && is_present a t) ≡ b → Concludes t n (final_of dir) a.life.log (and_decide a t dir (told_final t n dir rs))
    choose true is = rw is (record { outs = refl; own = refl; decided = decides; more = told.Ended t dir ∷ []; told = refl; told_no_verdict = refl })
    choose false is = rw is (record { outs = refl; own = refl; decided = decides; more = []; told = refl; told_no_verdict = refl })

    already : (b : Bool) → is_undecided t (a.life.log ++ rs) ≡ b → (is_undecided t (a.life.log ++ rs) && fits t dir (a.life.log ++ rs)) ≡ false →
        (is_undecided t (a.life.log ++ rs) ≡ false) ⊎ (fits t dir (a.life.log ++ rs) ≡ true) → is_undecided t (a.life.log ++ rs) ≡ false
    already false off none fit = off
    already true on none (inl off) = off
    already true on none (inr fit) = absurd (let both : (is_undecided t (a.life.log ++ rs) && fits t dir (a.life.log ++ rs)) ≡ true = rw (on, fit) refl in let clash : true ≡ false = sym both ∙ none in cc)

    by : (b : Bool) → may_decide a t dir (told_final t n dir rs) ≡ b → Concludes t n (final_of dir) a.life.log (final_choice a t n dir rs)
    by true is = subst (λ b. Concludes t n (final_of dir) a.life.log (if b then and_decide a t dir (told_final t n dir rs) else told_final t n dir rs)) (sym is) (choose (is_coordinator a t && is_present a t) refl)
    by false is =
        subst (λ b. Concludes t n (final_of dir) a.life.log (if b then and_decide a t dir (told_final t n dir rs) else told_final t n dir rs)) (sym is)
        (record { outs = refl; own = refl; decided = already (is_undecided t (a.life.log ++ rs)) refl (sym (may_be a t n dir rs) ∙ is) either; more = []; told = refl; told_no_verdict = refl })

-- the elector attempts, and is a quorum by itself: it decides at once
abbrev pub alone_made : At → Txn → ℕ → Dir → List Record → Made
alone_made a t n dir rs = and_decide a t dir (and_record (log.Attempt t n dir) (told_pre t n dir rs))

pub alone_is : (a : At) (t : Txn) (n : ℕ) (group : List ℕ) (reports : List SiteReport) (dir : Dir) (rs : List Record) → verdict_of a.weights t.sites reports ≡ pre_of dir →
    is_undecided t (a.life.log ++ rs) ≡ true → (last_elected t (a.life.log ++ rs) == n) ≡ true → nat_lt (last_attempt t (a.life.log ++ rs)) n ≡ true → is_quorum a.weights (a.site ∷ []) t.sites ≡ true →
    and_verdict a t n group reports (makes rs []) ≡ and_cast a group (msg.Decide t dir) (alone_made a t n dir rs)
alone_is a t n group reports Commit rs is undecided joined below alone = rw is (rw (undecided, joined, below) (rw alone refl))
alone_is a t n group reports Abort rs is undecided joined below alone = rw is (rw (undecided, joined, below) (rw alone refl))

pub alone_concludes : (a : At) (t : Txn) (n : ℕ) (dir : Dir) (rs : List Record) → Concludes t n (pre_of dir) a.life.log (alone_made a t n dir rs)
alone_concludes a t n dir rs = choose (is_coordinator a t && is_present a t) refl
  where
    decides : is_undecided t (a.life.log ++ ((rs ++ log.Attempt t n dir ∷ []) ++ log.Decision t dir ∷ [])) ≡ false
    decides = ap (is_undecided t) (sym (append_assoc a.life.log (rs ++ log.Attempt t n dir ∷ []) (log.Decision t dir ∷ []))) ∙ decides_now t (a.life.log ++ (rs ++ log.Attempt t n dir ∷ [])) dir

    choose : (b : Bool) → (is_coordinator a t && is_present a t) ≡ b → Concludes t n (pre_of dir) a.life.log (alone_made a t n dir rs)
    choose true is = rw is (record { outs = refl; own = refl; decided = decides; more = told.Ended t dir ∷ []; told = refl; told_no_verdict = refl })
    choose false is = rw is (record { outs = refl; own = refl; decided = decides; more = []; told = refl; told_no_verdict = refl })
