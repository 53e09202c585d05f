-- What an elector told, entry by entry.
use Rattle.std.proofs.Common.{◌≡◌, ◌≢◌, ◌∙◌, ◌==◌, ◌++◌, ◌∷◌, [], ℕ, Bool, true, false, List, Option, Some, None, fold, map, refl, sym, ap, append-nil, eq-eqb, eqb-true}
use Rattle.std.specs.List.{flat_map}
use Rattle.std.proofs.lemmas.Grind.{flat_map-append, fold-append}
use Rattle.e3_types.specs.declared.entries.Act.TheVariants.{Step}
use Rattle.e3_types.specs.declared.entries.Entry.{Entry}
use Rattle.e3_types.specs.declared.entries.Input.{Input}
use Rattle.e3_types.specs.declared.entries.Told.{Told}
use Rattle.e3_types.specs.declared.messages.Packet.{Packet}
use Rattle.e3_types.specs.declared.records.Record.{Record}
use Rattle.e3_types.specs.declared.verdicts.Verdict.{Verdict}
use Rattle.e3_world.specs.Items.{RecoveryRound}
use Rattle.e3_world.proofs.Turns.{self}
use Rattle.e3_laws.specs.rounds.Rounds.{verdicts_at, verdicts_told, verdict_in, verdicts_in}
use Rattle.e3_play.specs.Reports.{later, later_of, verdict_of}

-- one more list of those that are folded
pub fold_more : {A B C : Type 0} (f : B → A → B) (g : C → List A) (b : B) (xs : List C) (x : C) →
    fold f (fold f b (flat_map g xs)) (g x) ≡ fold f b (flat_map g (xs ++ x ∷ []))
fold_more f g b xs x =
    sym (fold-append f b (flat_map g xs) (g x))
    ∙ ap (fold f b) (ap (λ l. flat_map g xs ++ l) (sym (append-nil (g x))) ∙ sym (flat_map-append g xs (x ∷ [])))

-- what the elector told itself counts
by_elector : (site owner : ℕ) (was : Option Verdict) (told : List Verdict) → (owner == site) ≡ true →
    fold (later_of site) was (map (λ v. record { site = owner; verdict = v }) told) ≡ fold later was told
by_elector site owner was [] same = refl
by_elector site owner was (v ∷ told) same =
    ap (λ (o : Option Verdict). fold (later_of site) o (map (λ w. record { site = owner; verdict = w }) told)) first ∙ by_elector site owner (Some v) told same
  where
    first : later_of site was (record { site = owner; verdict = v }) ≡ Some v
    first = rw same refl

-- what others told does not
by_another : (site owner : ℕ) (was : Option Verdict) (told : List Verdict) → (owner == site) ≡ false →
    fold (later_of site) was (map (λ v. record { site = owner; verdict = v }) told) ≡ was
by_another site owner was [] same = refl
by_another site owner was (v ∷ told) same =
    ap (λ (o : Option Verdict). fold (later_of site) o (map (λ w. record { site = owner; verdict = w }) told)) first ∙ by_another site owner was told same
  where
    first : later_of site was (record { site = owner; verdict = v }) ≡ was
    first = rw same refl

apart : (a b : ℕ) → a ≢ b → (a == b) ≡ false
apart a b differ = by (a == b) refl
  where
    by : (same : Bool) → (a == b) ≡ same → (a == b) ≡ false
    by false is = is
    by true is = absurd (differ (eqb-true a b is))

-- an entry of the elector, and one of another site
pub told_by_elector : (r : RecoveryRound) (e : Entry) (was : Option Verdict) (i : Input) (records : List Record) (outs : List Packet) (told : List Told) →
    e.act ≡ Step i records outs told → e.owner ≡ r.elector → fold later was (flat_map (verdict_in r.txn) told) ≡ fold (later_of r.elector) was (verdicts_at r.txn e)
told_by_elector r e was i records outs told is mine =
    sym (ap (λ act. fold (later_of r.elector) was (map (λ v. record { site = e.owner; verdict = v }) (verdicts_in r.txn act))) is
    ∙ by_elector r.elector e.owner was (flat_map (verdict_in r.txn) told) (eq-eqb e.owner r.elector mine))

pub told_by_another : (r : RecoveryRound) (e : Entry) (was : Option Verdict) → e.owner ≢ r.elector → was ≡ fold (later_of r.elector) was (verdicts_at r.txn e)
told_by_another r e was differ = sym (by_another r.elector e.owner was (verdicts_in r.txn e.act) (apart e.owner r.elector differ))

-- the one verdict of a round is reported
pub one_is_told : (r : RecoveryRound) (entered : List Entry) (said : Verdict) →
    verdicts_told r.txn entered ≡ record { site = r.elector; verdict = said } ∷ [] → verdict_of r entered ≡ Some said
one_is_told r entered said one = ap (fold (later_of r.elector) None) one ∙ here
  where
    here : later_of r.elector None (record { site = r.elector; verdict = said }) ≡ Some said
    here = rw (self r.elector) refl

pub some_told : (o : Option Verdict) (v : Verdict) → o ≡ Some v → o ≢ None
some_told o v is none = absurd (let both : Some v ≡ None = sym is ∙ none in cc)
