-- What a pass may conclude of marks.
use Rattle.std.specs.Prelude.{◌≡◌, ◌≢◌, ◌≤◌, ◌<◌, ◌+◌, ◌^◌, ◌++◌, ◌∷◌, [], ℕ, suc, true, false, List, length, All}
use Rattle.e3_laws.specs.local.Drafts.{MayEnter, MayTake}
use Rattle.e3_laws.specs.local.Least.{AreOfSites}
use Rattle.e3_laws.specs.local.Others.{Allows, AreOthers, numbered_on}
use Rattle.e3_turn.specs.Passes.{GrewByOthers, GrewByOwners, Owns, OwnsAll, PassOf, last_of, seen_by}
use Rattle.e3_types.specs.declared.entries.Entry.{Entry}
use Rattle.e3_types.specs.declared.entries.Input.{Input}
use Rattle.e3_types.specs.declared.scenarios.Scenario.{Scenario}
use Rattle.e3_wire.specs.declared.marks.Mark.{Mark}
use Rattle.e3_wire.specs.declared.marks.Mark.TheVariants as mark
use Rattle.e3_wire.specs.declared.marks.Note.{Note}
use Rattle.e3_wire.specs.Marks.{AreForeign, NothingIsPromised, UsesAll, belongs, entries_of, last_owner, most_of, note_of, nothing, places_for, scenario_of, used_by, used_of}
use Rattle.e3_wire.specs.Wires.{IsPlayed, MayEnterBehind, TakesLeast, TakesInTurn}
use Rattle.e3_world.specs.Items.{inputs_of}
use Rattle.e3_world.specs.Legal.{IsDue, IsLegal}
use Rattle.e3_world.specs.Packets.{is_calm, outs_of, present_items}

-- a pass of what is shared
abbrev pub APass : Type 0
APass = PassOf (List Mark) Mark

-- behind what a pass has seen no mark belongs to an owner of it
abbrev pub AreOthersMarks : Type 0
AreOthersMarks = (p : APass) (o : ℕ) (marks : List Mark) → Owns p o → GrewByOthers belongs p marks →
    (since : List Mark) × (marks ≡ seen_by p ++ since) × AreForeign o since

-- Such marks are entries of other sites, and leave what is promised to the owner.
abbrev pub LeaveASite : Type 0
LeaveASite = (sc : Scenario) (o : ℕ) (seen since : List Mark) → IsLegal sc (entries_of (seen ++ since)) → AreForeign o since →
    AreOthers o (entries_of since) × AreOfSites (entries_of since) × (note_of o (seen ++ since) ≡ note_of o seen)

-- the mark belongs to one of the owners up to the last
abbrev pub HasOwner : ℕ → Mark → Type 0
HasOwner last m = (o : ℕ) × (o ≤ last) × (belongs m o ≡ true)

-- a pass that owns all may put any marks that belong to someone behind what it has seen
abbrev pub DriversMayPut : Type 0
DriversMayPut = (p : APass) (marks more : List Mark) → OwnsAll p → marks ≡ seen_by p ++ more → All (HasOwner (last_of p)) more →
    GrewByOwners belongs p marks

-- entries behind entries
abbrev pub EntriesFollow : Type 0
EntriesFollow = (seen since : List Mark) → entries_of (seen ++ since) ≡ entries_of seen ++ entries_of since

-- the scenario and the bound stay those of the first mark
abbrev pub ScenarioStays : Type 0
ScenarioStays = (seen since : List Mark) → IsPlayed seen →
    (scenario_of (seen ++ since) ≡ scenario_of seen) × (most_of (seen ++ since) ≡ most_of seen)

-- a promise adds a place and its room to the owner's note
abbrev pub ClaimPromises : Type 0
ClaimPromises = (o outs : ℕ) (marks : List Mark) →
    note_of o (marks ++ mark.Place o outs ∷ []) ≡ record { places = suc (note_of o marks).places; room = (note_of o marks).room + outs }

-- an entry uses what it uses of its owner's
abbrev pub EntryUses : Type 0
EntryUses = (e : Entry) (marks : List Mark) → note_of e.owner (marks ++ mark.Entered e ∷ []) ≡ used_by (note_of e.owner marks) e.act

-- The second marks differ from the first in what is promised to this owner alone, and stand as those did.
pub record HasNoted (o : ℕ) (note : Note) (before now : List Mark) : Type 0 where
  pub noted : note_of o now ≡ note
  pub others : (u : ℕ) → u ≢ o → note_of u now ≡ note_of u before
  pub entries : entries_of now ≡ entries_of before
  pub scenario : scenario_of now ≡ scenario_of before
  pub most : most_of now ≡ most_of before
  pub played : IsPlayed now

-- Promises of a place without room add to the owner's places, and to what is used.
abbrev pub PlacesPromise : Type 0
PlacesPromise = (o n : ℕ) (marks : List Mark) → IsPlayed marks → o ≤ last_owner marks → used_of marks + n ≤ most_of marks →
    HasNoted o (record { places = (note_of o marks).places + n; room = (note_of o marks).room }) marks (marks ++ places_for o n)
    × (used_of (marks ++ places_for o n) ≡ used_of marks + n)

-- What is freed leaves nothing promised to the owner, and its places are used no more.
abbrev pub FreedLeaves : Type 0
FreedLeaves = (o : ℕ) (marks : List Mark) → IsPlayed marks → o ≤ last_owner marks →
    HasNoted o nothing marks (marks ++ mark.Freed o ∷ []) × (used_of (marks ++ mark.Freed o ∷ []) + (note_of o marks).places ≡ used_of marks)

-- where nothing is promised to any owner, only entries count
abbrev pub NothingPromised : Type 0
NothingPromised = (marks : List Mark) → NothingIsPromised marks → used_of marks ≡ length (entries_of marks)

-- Where nothing is promised, an entry of the driver promises nothing, and the entry of a site that a place was claimed for
-- leaves nothing promised, if it uses all of the claim.
abbrev pub EntriesPromiseNothing : Type 0
EntriesPromiseNothing = (marks : List Mark) (e : Entry) → IsPlayed marks → NothingIsPromised marks → NothingIsPromised (marks ++ mark.Entered e ∷ [])

abbrev pub ClaimsAreUsed : Type 0
ClaimsAreUsed = (marks claimed : List Mark) (outs : ℕ) (e : Entry) → claimed ≡ marks ++ mark.Place e.owner outs ∷ [] → NothingIsPromised marks →
    UsesAll claimed e → NothingIsPromised (claimed ++ mark.Entered (numbered_on (entries_of claimed) e) ∷ [])

-- the second marks are the first, and behind them marks that belong to owners
abbrev pub HaveGrown : List Mark → List Mark → Type 0
HaveGrown before now = (more : List Mark) × (now ≡ before ++ more) × All (HasOwner (last_owner before)) more

-- so do those that grew of these
abbrev pub GrowthAddsUp : Type 0
GrowthAddsUp = (first second third : List Mark) → IsPlayed first → HaveGrown first second → HaveGrown second third → HaveGrown first third

-- Once a place and room are claimed for it, an entry of a site that is allowed and takes the least packet or none may be
-- entered.
abbrev pub ClaimedEntriesMayEnter : Type 0
ClaimedEntriesMayEnter = (e : Entry) (outs : ℕ) (marks : List Mark) → IsPlayed marks → 1 ≤ e.owner → e.owner ≤ last_owner marks →
    Allows (scenario_of marks) (entries_of marks) e → TakesInTurn (scenario_of marks) (entries_of marks) e.owner (inputs_of e.act) →
    length (outs_of e.act) ≤ outs → outs < 2 ^ 32 → MayEnterBehind (marks ++ mark.Place e.owner outs ∷ []) e

-- If no recover step is on it may be, whatever others put before the claim.
abbrev pub ClaimedEntriesStay : Type 0
ClaimedEntriesStay = (e : Entry) (outs : ℕ) (seen since : List Mark) → IsPlayed (seen ++ since) → AreForeign e.owner since →
    1 ≤ e.owner → e.owner ≤ last_owner seen → is_calm (present_items (scenario_of seen) (entries_of seen)) ≡ false →
    Allows (scenario_of seen) (entries_of seen) e → TakesInTurn (scenario_of seen) (entries_of seen) e.owner (inputs_of e.act) →
    length (outs_of e.act) ≤ outs → outs < 2 ^ 32 → MayEnterBehind ((seen ++ since) ++ mark.Place e.owner outs ∷ []) e

-- An input that a site may take, and whose packet is the least to it, is due, if no recover step is on.
abbrev pub TakenIsDue : Type 0
TakenIsDue = (sc : Scenario) (h : List Entry) (site : ℕ) (i : Input) → is_calm (present_items sc h) ≡ false → MayTake sc h site i →
    TakesLeast sc h site i → IsDue sc h site i

-- What a site may enter behind marks, it may enter behind what others put since and its claim, if no recover step is on.
abbrev pub ClaimedDraftsMayEnter : Type 0
ClaimedDraftsMayEnter = (e : Entry) (outs : ℕ) (seen since : List Mark) → IsPlayed (seen ++ since) → AreForeign e.owner since →
    e.owner ≤ last_owner seen → is_calm (present_items (scenario_of seen) (entries_of seen)) ≡ false →
    MayEnter (scenario_of seen) (entries_of seen) e → TakesInTurn (scenario_of seen) (entries_of seen) e.owner (inputs_of e.act) →
    length (outs_of e.act) ≤ outs → outs < 2 ^ 32 → MayEnterBehind ((seen ++ since) ++ mark.Place e.owner outs ∷ []) e
