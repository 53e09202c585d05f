-- Which members of a round are up: those that were up at the line of the step, but for those that fell in it.
use Rattle.std.proofs.Common.{◌≡◌, ◌∙◌, ◌==◌, ◌&&◌, ◌||◌, ◌++◌, ◌∷◌, [], inl, inr, ℕ, Bool, true, false, List, filter, refl, sym, subst, ap, append-nil, append_assoc, eqb-true}
use Rattle.std.specs.List.{list_any, list_all, flat_map}
use Rattle.std.proofs.lemmas.List.Folds.{list_any-append}
use Rattle.e3_types.specs.declared.entries.Act.{Act}
use Rattle.e3_types.specs.declared.entries.Act.TheVariants.{Drop}
use Rattle.e3_types.specs.declared.entries.Entry.{Entry}
use Rattle.e3_types.specs.declared.entries.Input.TheVariants as input
use Rattle.e3_types.specs.declared.messages.Packet.{Packet}
use Rattle.e3_types.specs.declared.scenarios.Scenario.{Scenario}
use Rattle.e3_types.specs.declared.transactions.Txn.{Txn}
use Rattle.e3_types.specs.Sets.{has_site}
use Rattle.e3_world.specs.Items.{RecoveryRound, add_txn, is_up_at, listed, open_at, since_line}
use Rattle.std.specs.Prelude.{fold}
use Rattle.e3_world.specs.Legal.{entry_of}
use Rattle.e3_world.specs.Packets.{is_line}
use Rattle.e3_world.specs.Progress.{up_behind}
use Rattle.e3_world.proofs.Readings.{since_push, up_other, up_same}
use Rattle.e3_world.proofs.Turns.{self, true_not_false}
use Rattle.e3_play.specs.Delivered.{Delivers, Nothing, Then}
use Rattle.e3_play.specs.Entering.{AfterInput, AfterPacket, fall_of}
use Rattle.e3_laws.specs.rounds.Queues.{falls}
use Rattle.e3_laws.specs.rounds.Rounds.{elects}
use Rattle.e3_laws.proofs.rounds.Beginning.{kept_site}
use Rattle.e3_play.specs.Reports.{is_fall_of, one_falls}
use Rattle.e3_play.specs.Rounds.{AfterRound}
use Rattle.e3_readings.specs.RoundOf.{round_of}

-- the members of a round were up at these entries, and its elector is one of them
pub record WasUp (start : List Entry) (r : RecoveryRound) : Type 0 where
  pub all : (m : ℕ) → has_site r.members m ≡ true → is_up_at start m ≡ true
  pub elects : has_site r.members r.elector ≡ true

abbrev pub WereUp : List Entry → List RecoveryRound → Type 0
WereUp start [] = Unit {0}
WereUp start (r ∷ rounds) = WasUp start r × WereUp start rounds

-- so it is with all rounds that are listed
listed_up : (start : List Entry) (up : List ℕ) → ((m : ℕ) → has_site up m ≡ true → is_up_at start m ≡ true) → (ts : List Txn) →
    WereUp start (flat_map (λ t. round_of t (filter (has_site t.sites) up)) ts)
listed_up start up all [] = tt
listed_up start up all (t ∷ ts) = by (filter (has_site t.sites) up) (λ m has. all m (kept_site (has_site t.sites) up m has).0) (listed_up start up all ts)
  where
    by : (xs : List ℕ) → ((m : ℕ) → has_site xs m ≡ true → is_up_at start m ≡ true) → WereUp start (flat_map (λ u. round_of u (filter (has_site u.sites) up)) ts) →
        WereUp start (round_of t xs ++ flat_map (λ u. round_of u (filter (has_site u.sites) up)) ts)
    by [] here rest = rest
    by (x ∷ xs) here rest = (record { all = here; elects = rw (self x) refl }, rest)

pub listed_were_up : (sc : Scenario) (h : List Entry) (group : List ℕ) → WereUp h (listed sc h group)
listed_were_up sc h group =
    let up : List ℕ = filter (is_up_at h) group in
    listed_up h up (λ m has. (kept_site (is_up_at h) group m has).1) (fold add_txn [] (flat_map (open_at sc h) up))

-- a site that was up at the line is up, unless it fell since
abbrev pub UpOrFell : List Entry → List Entry → Type 0
UpOrFell start h = (m : ℕ) → is_up_at start m ≡ true → one_falls (m ∷ []) (since_line h) ≡ false → is_up_at h m ≡ true

-- the act takes no site down, unless it is a fall
abbrev pub FallsAtMost : Act → Type 0
FallsAtMost act = falls act ≡ false → (was : Bool) → up_behind was act ≡ was

or_parts : (a b : Bool) → (a || b) ≡ false → (a ≡ false) × (b ≡ false)
or_parts true b is = absurd cc
or_parts false b is = (refl, is)

pub up_push : (start h : List Entry) (e : Entry) → is_line e ≡ false → FallsAtMost e.act → UpOrFell start h → UpOrFell start (h ++ e ∷ [])
up_push start h e stays most was m up none = by (e.owner == m) refl
  where
    apart : (one_falls (m ∷ []) (since_line h) ≡ false) × (one_falls (m ∷ []) (e ∷ []) ≡ false)
    apart = or_parts (one_falls (m ∷ []) (since_line h)) (one_falls (m ∷ []) (e ∷ []))
        (sym (list_any-append (is_fall_of (m ∷ [])) (since_line h) (e ∷ [])) ∙ ap (one_falls (m ∷ [])) (sym (since_push h e stays)) ∙ none)

    before : is_up_at h m ≡ true
    before = was m up apart.0

    no_fall : (o : ℕ) (b : Bool) → (o == m) ≡ true → ((b && has_site (m ∷ []) o) || false) ≡ false → b ≡ false
    no_fall o false same is = refl
    no_fall o true same is =
        let here : o ≡ m = eqb-true o m same in
        let has : has_site (m ∷ []) o ≡ true = subst (λ k. has_site (m ∷ []) k ≡ true) (sym here) (rw (self m) refl) in
        absurd (true_not_false (let all : ((true && has_site (m ∷ []) o) || false) ≡ true = rw has refl in sym all ∙ is))

    by : (b : Bool) → (e.owner == m) ≡ b → is_up_at (h ++ e ∷ []) m ≡ true
    by true mine = up_same h e m mine ∙ most (no_fall e.owner (falls e.act) mine apart.1) (is_up_at h m) ∙ before
    by false mine = up_other h e m mine ∙ before

-- one more entry of a round behind its Elect
pub record IsLater (h next : List Entry) : Type 0 where
  pub entry : Entry
  pub entered : next ≡ h ++ entry ∷ []
  pub stays : is_line entry ≡ false
  pub no_elect : elects entry ≡ false
  pub most : FallsAtMost entry.act

packet_later : (sc : Scenario) (h next : List Entry) (p : Packet) → AfterPacket sc h p next → IsLater h next
packet_later sc h next p (inr dropped) =
    record { entry = record { owner = 0; act = Drop p.number }; entered = dropped.after; stays = refl; no_elect = refl; most = λ is was. refl }
packet_later sc h next p (inl delivered) = by delivered.after
  where
    by : AfterInput sc h p.to (input.Deliver p) next → IsLater h next
    by (inl stepped) = record { entry = entry_of sc h p.to (input.Deliver p); entered = stepped; stays = refl; no_elect = refl; most = λ is was. refl }
    by (inr fell) = record { entry = fall_of sc h p.to (input.Deliver p) fell.why; entered = fell.entered; stays = refl; no_elect = refl; most = λ is was. absurd cc }

-- what packets alone enter
pub record AreLater (start now : List Entry) : Type 0 where
  pub entries : List Entry
  pub is : now ≡ start ++ entries
  pub since : since_line now ≡ since_line start ++ entries
  pub no_line : list_any is_line entries ≡ false
  pub no_elect : list_any elects entries ≡ false

pub packets_later : (sc : Scenario) (start now : List Entry) → Delivers sc start now → AreLater start now
packets_later sc start now Nothing = record { entries = []; is = sym (append-nil start); since = sym (append-nil (since_line start)); no_line = refl; no_elect = refl }
packets_later sc start now (Then h more p before first after) =
    let was : AreLater start h = packets_later sc start h before in
    let one : IsLater h now = packet_later sc h now p after in
    record {
      entries = was.entries ++ one.entry ∷ [];
      is = one.entered ∙ ap (λ l. l ++ one.entry ∷ []) was.is ∙ append_assoc start was.entries (one.entry ∷ []);
      since = ap since_line one.entered ∙ since_push h one.entry one.stays ∙ ap (λ l. l ++ one.entry ∷ []) was.since ∙ append_assoc (since_line start) was.entries (one.entry ∷ []);
      no_line = list_any-append is_line was.entries (one.entry ∷ []) ∙ rw (was.no_line, one.stays) refl;
      no_elect = list_any-append elects was.entries (one.entry ∷ []) ∙ rw (was.no_elect, one.no_elect) refl;
    }

pub packets_up : (sc : Scenario) (first start now : List Entry) → UpOrFell first start → Delivers sc start now → UpOrFell first now
packets_up sc first start now was Nothing = was
packets_up sc first start now was (Then h more p before least after) =
    let one : IsLater h now = packet_later sc h now p after in
    subst (λ l. UpOrFell first l) (sym one.entered) (up_push first h one.entry one.stays one.most (packets_up sc first start h was before))

-- where none of several sites falls, no single one does
pub single : (sites : List ℕ) (m : ℕ) (entries : List Entry) → has_site sites m ≡ true → one_falls sites entries ≡ false → one_falls (m ∷ []) entries ≡ false
single sites m [] has none = refl
single sites m (e ∷ entries) has none =
    let parts = or_parts (is_fall_of sites e) (one_falls sites entries) none in
    let first : is_fall_of (m ∷ []) e ≡ false = by (falls e.act) (m == e.owner) refl parts.0 in
    rw (first, single sites m entries has parts.1) refl
  where
    by : (fell is : Bool) → (m == e.owner) ≡ is → (fell && has_site sites e.owner) ≡ false → (fell && (is || false)) ≡ false
    by false is here out = refl
    by true false here out = refl
    by true true here out = absurd (true_not_false (sym (subst (λ s. has_site sites s ≡ true) (eqb-true m e.owner here) has) ∙ out))

pub all_up : (p : ℕ → Bool) (ms : List ℕ) → ((m : ℕ) → has_site ms m ≡ true → p m ≡ true) → list_all p ms ≡ true
all_up p [] each = refl
all_up p (x ∷ ms) each = rw (each x (rw (self x) refl)) (all_up p ms (λ m has. each m (ap (λ b. (x == m) || b) has ∙ or_true (x == m))))
  where
    or_true : (b : Bool) → (b || true) ≡ true
    or_true true = refl
    or_true false = refl

-- where none of the members fell, all are up
pub members_up : (start h : List Entry) (r : RecoveryRound) → WasUp start r → UpOrFell start h → one_falls r.members (since_line h) ≡ false →
    (m : ℕ) → has_site r.members m ≡ true → is_up_at h m ≡ true
members_up start h r was up none m has = up m (was.all m has) (single r.members m (since_line h) has none)

-- a round at its turn enters something behind what was there
pub turn_enters : (sc : Scenario) (h more : List Entry) (r : RecoveryRound) → AfterRound sc h r more → (entered : List Entry) × (more ≡ h ++ entered)
turn_enters sc h more r (inr passed) = ([], passed.same ∙ sym (append-nil h))
turn_enters sc h more r (inl made) = by made.entered
  where
    later : AreLater made.elected more
    later = packets_later sc made.elected more made.delivered

    with : (e : Entry) → made.elected ≡ h ++ e ∷ [] → (entered : List Entry) × (more ≡ h ++ entered)
    with e is = (e ∷ later.entries, later.is ∙ ap (λ l. l ++ later.entries) is ∙ append_assoc h (e ∷ []) later.entries)

    by : AfterInput sc h r.elector (input.Elect r.txn r.members) made.elected → (entered : List Entry) × (more ≡ h ++ entered)
    by (inl stepped) = with _ stepped
    by (inr fell) = with _ fell.entered
