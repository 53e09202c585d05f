-- A node behind a rise, however that ended.
use Rattle.std.proofs.Common.{◌≡◌, ◌≢◌, ◌+◌, ◌<◌, ◌≤◌, ◌^◌, ◌++◌, ◌∷◌, [], ℕ, suc, Bool, true, List, Option, None, length, take, refl, sym, subst, ap, ◌∙◌, append-nil, arith}
use Rattle.std.specs.Prelude.{fold, nat_lt}
use Rattle.std.specs.List.{AllByRecursion as Each, flat_map}
use Rattle.std.proofs.lemmas.Grind.{flat_map-append}
use Rattle.e3_codec.proofs.Records.{one_list}
use Rattle.e3_codec.specs.Fields.{AllCanBeReadBack}
use Rattle.e3_disk.specs.Images.{Within}
use Rattle.e3_disk.specs.Meaning.{Meaning}
use Rattle.e3_disk.specs.Meters.{Keeps, Meters, HasFailed}
use Rattle.e3_laws.specs.brief.Alike.{ReadAlike}
use Rattle.e3_world.specs.Brief.{brief, txns_of}
use Rattle.e3_world.specs.Transactions.{IsFoundByBits}
use Rattle.e3_world.specs.Orderly.{IsOrderly, weights_in}
use Rattle.e3_laws.specs.brief.Sets.{LoggedSitesAreSets}
use Rattle.e3_laws.proofs.brief.Laws.{are_some, same_alike}
use Rattle.e3_laws.specs.serial.Orderly.{LogsAreOrderly}
use Rattle.e3_site.specs.StandsAlike.{IsLogInOrder, StandsAlike}
use Rattle.e3_site.proofs.Alike.{rises}
use Rattle.e3_laws.specs.steps.Begun.{BegunAreTransactions, RecordsMentionWhatStands}
use Rattle.e3_laws.specs.steps.Trails.{TrailsAreSound, VotesAtTheirSite}
use Rattle.e3_laws.proofs.steps.Each.{each-left}
use Rattle.e3_log.specs.declared.fault.OpenCause.{OpenCause}
use Rattle.e3_log.specs.declared.fault.OpenCause.TheVariants as causes
use Rattle.e3_log.specs.Reading.{ReadsAs as BytesReadAs}
use Rattle.e3_log.specs.Stands.{LogState, Stands}
use Rattle.e3_log.proofs.Unique.{one_text}
use Rattle.e3_node.specs.Bodies.{DiskTells, IsRead, ReadsTold, entries_at, log_with, moves_with}
use Rattle.e3_node.specs.Briefing.{IsReadBrief}
use Rattle.e3_node.specs.Telling.{IsOfSite}
use Rattle.e3_node.specs.Rising.{HasHistory, HasNotRaised, HasRaised, IsReady, MayRise, RiseMakes, born_by, raised_by, raised_of, records_by, rise_fall_of, rise_of}
use Rattle.e3_node.specs.declared.readying.Readied.{Readied}
use Rattle.e3_node.specs.declared.readying.Unready.{Unready}
use Rattle.e3_node.specs.declared.readying.Unready.TheVariants as unready
use Rattle.e3_node.specs.declared.readying.Wish.{Wish}
use Rattle.e3_node.specs.declared.rising.Raised.{Raised}
use Rattle.e3_node.specs.declared.rising.Raised.TheVariants.{Risen, Failed, Missed, NoMemory, Foreign}
use Rattle.e3_node.specs.declared.state.State.{State}
use Rattle.e3_node.specs.declared.state.State.TheVariants.{Down, Up}
use Rattle.e3_site.specs.Rebuilt.{IsRebuilt}
use Rattle.e3_site.specs.SiteView.{SiteView}
use Rattle.e3_site.specs.StandsFor.{IsRisenWith}
use Rattle.e3_node.specs.site_log.Bodies.{IsLogged, ReadsAs, ReadsLeft, bodies_in, joined}
use Rattle.e3_node.specs.site_log.Ends.{LacksRoom, IsReason}
use Rattle.e3_node.proofs.site_log.Frames.{spells}
use Rattle.e3_node.proofs.site_log.Holding.{fronts, same_go_on}
use Rattle.e3_site.proofs.Legal.{in_order}
use Rattle.e3_types.specs.declared.entries.Entry.{Entry}
use Rattle.e3_types.specs.declared.entries.Why.{Why}
use Rattle.e3_types.specs.declared.entries.Why.TheVariants.{Fault, Full}
use Rattle.e3_types.specs.Spelling.{spelling}
use Rattle.e3_types.specs.declared.records.Record.{Record}
use Rattle.e3_types.specs.declared.records.Record.TheVariants as log
use Rattle.e3_types.specs.declared.scenarios.Scenario.{Scenario}
use Rattle.e3_types.specs.declared.transactions.Row.{Row}
use Rattle.e3_types.specs.declared.transactions.Txn.{Txn}
use Rattle.e3_world.specs.Items.{add_txn, txn_of_record}
use Rattle.e3_world.specs.Legal.{IsLegal, IsRise}
use Rattle.e3_world.specs.Lives.{life_at}
use Rattle.e3_world.specs.Logs.{logged_inc}
use Rattle.e3_world.specs.Moves.{Move, Tail, left_by, log_by, log_of, moves_of, open_tail, rise_records, rows_at}
use Rattle.e3_world.proofs.Pushes.{legal_push, life_log_at}
use Rattle.e3_world.proofs.Readings.{up_same}
use Rattle.e3_world.proofs.Turns.{self}
use Rattle.e3_node.proofs.Briefs.{brief_own}
use Rattle.e3_node.proofs.Guarding.{rise_fall_guard, rise_guard}
use Rattle.e3_node.proofs.Left.{left_tells, opened_reads}
use Rattle.e3_node.proofs.Metering.{failed_since}
use Rattle.e3_node.proofs.Orders.{log_in_order}
use Rattle.e3_node.proofs.Owning.{log_own}
use Rattle.e3_node.proofs.Pasts.{entries_on, rise_fall_moves, rise_fall_tail, rise_log, rise_moves, with_log}

-- What was read is a log with the brief of the site's, with the tail exactly where it is kept.
pub record Found (sc : Scenario) (h : List Entry) (site capacity : ℕ) (generation : ℕ) (bytes : List ℕ) (bodies : List (List ℕ)) (read : List Record) (kept : Bool) : Type 0 where
  pub reads : ReadsAs site capacity (entries_at h site) (log_with sc h site kept) bytes
  pub are : bodies ≡ bodies_in reads.lists
  pub turns : generation ≡ reads.generation
  pub read_is : read ≡ joined reads.lists
  pub some : kept ≡ true → open_tail sc h site ≢ None

-- an image that tells of a tail is found so
pub found : (sc : Scenario) (h : List Entry) (site capacity logged generation : ℕ) (bytes : List ℕ) (bodies : List (List ℕ)) (read : List Record) (kept : Bool) →
    BytesReadAs capacity generation bodies bytes → AllCanBeReadBack site read → flat_map (λ body. body) bodies ≡ spelling read → length read < 2 ^ 64 →
    kept ≡ nat_lt logged (length read) → ReadsTold site capacity (entries_at h site) logged (moves_of sc h site) (open_tail sc h site) bytes →
    Found sc h site capacity generation bytes bodies read kept
found sc h site capacity logged generation bytes bodies read kept reads back spelled few kept_is it =
    subst (λ (k : Bool). Found sc h site capacity generation bytes bodies read k) same
    (record { reads = it.reads; are = one.0; turns = one.1; read_is = read_is; some = it.some })
  where
    one : (bodies ≡ bodies_in it.reads.lists) × (generation ≡ it.reads.generation)
    one = one_text capacity generation it.reads.generation bodies (bodies_in it.reads.lists) bytes reads it.reads.reads

    read_is : read ≡ joined it.reads.lists
    read_is = one_list site read (joined it.reads.lists) back it.reads.hold.back (sym spelled ∙ ap (flat_map (λ body. body)) one.0 ∙ spells it.reads.lists)

    same : it.kept ≡ kept
    same =
        let long : length (joined it.reads.lists) ≡ length read = ap length (sym read_is) in
        it.told (omega (arith, few, long)) ∙ ap (λ (n : ℕ). nat_lt logged n) long ∙ sym kept_is

-- the records of a rise are those of the site's in this scenario
pub rise_by : (sc : Scenario) (wish : Wish) (inc : ℕ) (read : List Record) → wish.weights ≡ sc.weights → wish.rows ≡ rows_at wish.site sc.rows →
    records_by wish inc read ≡ rise_records sc wish.site inc read
rise_by sc wish inc [] weights rows =
    ap (λ (l : List ℕ). log.Birth 1 wish.site l wish.rows ∷ log.Inc inc ∷ []) weights
    ∙ ap (λ (l : List Row). log.Birth 1 wish.site sc.weights l ∷ log.Inc inc ∷ []) rows
rise_by sc wish inc (r ∷ rs) weights rows = refl

-- logs with the same brief are empty together, and so a rise has the same records behind them
rise_alike : (sc : Scenario) (site inc : ℕ) (a b : List Record) → IsOrderly site a → IsOrderly site b → brief a ≡ brief b → rise_records sc site inc a ≡ rise_records sc site inc b
rise_alike sc site inc [] [] oa ob same = refl
rise_alike sc site inc (r ∷ rs) (t ∷ ts) oa ob same = refl
rise_alike sc site inc [] (t ∷ ts) oa ob same = absurd (let none : t ∷ ts ≡ [] = are_some site (t ∷ ts) ob (sym same) in cc)
rise_alike sc site inc (r ∷ rs) [] oa ob same = absurd (let none : r ∷ rs ≡ [] = are_some site (r ∷ rs) oa same in cc)

module _ (logs : LogsAreOrderly) (sets : LoggedSitesAreSets) (sounds : TrailsAreSound) (sc : Scenario) (h : List Entry) (wish : Wish) (may : MayRise sc h wish) where
  abbrev of_wish : ℕ
  of_wish = wish.site

  module _ (kept : Bool) (some : kept ≡ true → open_tail sc h of_wish ≢ None) where
    -- the log with what is kept
    abbrev before : List Record
    before = log_with sc h of_wish kept

    abbrev next : ℕ
    next = suc (logged_inc before)

    abbrev e : Entry
    e = rise_of of_wish kept next

    abbrev mine : List Record
    mine = rise_records sc of_wish next before

    pub allowed : IsRise sc h of_wish kept next
    allowed = record { rising = may.rising; has_tail = some; next = ap (λ (l : List Record). suc (logged_inc l)) (with_log sc h of_wish kept) }

    pub legal : IsLegal sc (h ++ e ∷ [])
    legal = legal_push sc h e may.legal (rise_guard sc h of_wish kept next may.some allowed)

    pub order : IsLogInOrder of_wish (log_of sc (h ++ e ∷ []) of_wish)
    order = log_in_order logs sets sc (h ++ e ∷ []) of_wish may.given legal

    log_is : log_of sc (h ++ e ∷ []) of_wish ≡ before ++ mine
    log_is = rise_log sc h of_wish kept next

    pub behind : IsOrderly of_wish (before ++ mine)
    behind = subst (λ (l : List Record). IsOrderly of_wish l) log_is order.orderly

    pub orderly : IsOrderly of_wish before
    orderly = (fronts of_wish [] before mine behind).0

    weights_are : weights_in (before ++ mine) ≡ sc.weights
    weights_are =
        let all = in_order sounds logs sc (h ++ e ∷ []) of_wish may.given legal in
        let life_is : (life_at (moves_of sc (h ++ e ∷ []) of_wish)).log ≡ before ++ mine = life_log_at (moves_of sc (h ++ e ∷ []) of_wish) ∙ log_is in
        ap weights_in (sym life_is) ∙ all.weights_are (λ none. some_behind (sym life_is ∙ none))
      where
        some_behind : before ++ mine ≡ [] → ⊥
        some_behind none = by before none
          where
            by : (l : List Record) → l ++ rise_records sc of_wish next l ≡ [] → ⊥
            by [] is = cc
            by (r ∷ rs) is = cc

    -- without an incarnation it is empty: it is the log of the history in which this rise fails
    pub begun : logged_inc before ≡ 0 → before ≡ []
    begun =
        let fails : Entry = rise_fall_of of_wish kept next Fault in
        let legal_then : IsLegal sc (h ++ fails ∷ []) = legal_push sc h fails may.legal (rise_fall_guard sc h of_wish kept next Fault may.some allowed) in
        let all = in_order sounds logs sc (h ++ fails ∷ []) of_wish may.given legal_then in
        let life_is : (life_at (moves_of sc (h ++ fails ∷ []) of_wish)).log ≡ before =
        life_log_at (moves_of sc (h ++ fails ∷ []) of_wish) ∙ ap log_by (rise_fall_moves sc h of_wish kept next Fault) in
        subst (λ (l : List Record). logged_inc l ≡ 0 → l ≡ []) life_is all.begun

    -- what was read, with the records of the rise behind it
    module _ (read : List Record) (orderly_read : IsOrderly of_wish read) (same : brief read ≡ brief before) where
      alike : ReadAlike before read
      alike = same_alike of_wish before read orderly orderly_read (sym same)

      pub begun_read : logged_inc read ≡ 0 → read ≡ []
      begun_read zero = alike.empty (begun (alike.inc ∙ zero))

      pub inc_is : suc (logged_inc read) ≡ next
      inc_is = ap suc (sym alike.inc)

      pub records_are : records_by wish next read ≡ mine
      records_are = rise_by sc wish next read may.weights_are may.rows_are ∙ rise_alike sc of_wish next read before orderly_read orderly same

      pub go_on : IsOrderly of_wish (read ++ mine) × (brief (read ++ mine) ≡ brief (before ++ mine))
      go_on = same_go_on of_wish before read mine behind orderly_read (sym same)

      weights_read : weights_in (read ++ mine) ≡ sc.weights
      weights_read = (same_alike of_wish (read ++ mine) (before ++ mine) go_on.0 behind go_on.1).weights ∙ weights_are

      risen : IsRisenWith sc (h ++ e ∷ []) of_wish (before ++ mine)
      risen = record {
        before = moves_with sc h of_wish kept;
        inc = next;
        records = mine;
        last = rise_moves sc h of_wish kept next;
        log_is = sym log_is;
      }

      -- a site that was rebuilt of them stands for the history with the rise
      pub stands_risen : (up : SiteView) → IsRebuilt of_wish (read ++ mine) up → StandsAlike sc (h ++ e ∷ []) of_wish (read ++ mine) up
      stands_risen up is =
          rises sc (h ++ e ∷ []) of_wish up (read ++ mine) (before ++ mine) (is.weights_are ∙ weights_read) is.site_is is.stands risen go_on.0 behind go_on.1

-- a rise that is ready has records
pub ready_some : (wish : Wish) (logged : ℕ) (bodies : List (List ℕ)) (ready : Readied) → IsReady wish logged bodies ready → ready.records ≢ []
ready_some wish logged bodies ready is = λ none. by (born_by wish is.read) (sym is.records_are ∙ none)
  where
    by : (born : List Record) → born ++ log.Inc ready.inc ∷ [] ≡ [] → ⊥
    by [] is_none = cc
    by (r ∷ rs) is_none = cc

-- a rise that is ready, over a log that was opened on a disk that stands
module _ {D : Type 0} (meaning : Meaning D) (logs : LogsAreOrderly) (sets : LoggedSitesAreSets) (sounds : TrailsAreSound)
    (sc : Scenario) (h : List Entry) (wish : Wish) (logged : ℕ) (bodies : List (List ℕ)) (ready : Readied) (old : LogState D) (may : MayRise sc h wish)
    (is : IsReady wish logged bodies ready) (stands : Stands meaning bodies old)
    (tells : DiskTells sc h wish.site (meaning.meters old.disk).capacity logged (meaning.image old.disk)) (at : meaning.image old.disk (meaning.content old.disk)) where
  abbrev kept_log : List Record
  kept_log = log_with sc h wish.site ready.kept

  abbrev up_next : ℕ
  up_next = suc (logged_inc kept_log)

  what : Found sc h wish.site (meaning.meters old.disk).capacity old.generation (meaning.content old.disk) bodies is.read ready.kept
  what = found sc h wish.site (meaning.meters old.disk).capacity logged old.generation (meaning.content old.disk) bodies is.read ready.kept
      (opened_reads meaning bodies old stands) is.back is.spelled is.few is.kept_is (tells (meaning.content old.disk) at)

  pub was_logged : IsLogged meaning wish.site (entries_at h wish.site) kept_log ready.read old
  was_logged =
      let few : what.reads.generation ≤ entries_at h wish.site = what.reads.few in
      let count : length is.read ≡ length (joined what.reads.lists) = ap length what.read_is in
      record {
        lists = what.reads.lists;
        hold = what.reads.hold;
        stands = subst (λ (bs : List (List ℕ)). Stands meaning bs old) what.are stands;
        few = omega (arith, few, what.turns);
        logged_is = omega (arith, is.read_is, is.few, count);
      }

  pub was_read : IsRead sc h wish.site (meaning.meters old.disk).capacity ready.kept (meaning.image old.disk)
  was_read = record { bytes = meaning.content old.disk; at = at; reads = what.reads }

  orderly_read : IsOrderly wish.site is.read
  orderly_read = subst (λ (l : List Record). IsOrderly wish.site l) (sym what.read_is) what.reads.hold.orderly

  same_brief : brief is.read ≡ brief kept_log
  same_brief = ap brief what.read_is ∙ what.reads.hold.same

  -- a rise has no transactions
  no_txns : (l : List Record) (n : ℕ) → txns_of (l ++ rise_records sc wish.site n l) ≡ txns_of l
  no_txns [] n = refl
  no_txns (r ∷ rs) n = ap (fold add_txn []) (flat_map-append txn_of_record (r ∷ rs) (log.Inc n ∷ []) ∙ append-nil (flat_map txn_of_record (r ∷ rs)))

  -- what was read has the brief of the log
  pub read_brief : RecordsMentionWhatStands → BegunAreTransactions → VotesAtTheirSite → IsReadBrief wish.site is.read kept_log
  read_brief mentions begun votes =
      let e : Entry = rise_of wish.site ready.kept up_next in
      let legal_e : IsLegal sc (h ++ e ∷ []) = legal logs sets sounds sc h wish may ready.kept what.some in
      let all : IsLogInOrder wish.site (log_of sc (h ++ e ∷ []) wish.site) = order logs sets sounds sc h wish may ready.kept what.some in
      let now : log_of sc (h ++ e ∷ []) wish.site ≡ kept_log ++ rise_records sc wish.site up_next kept_log = rise_log sc h wish.site ready.kept up_next in
      let own : Each (IsOfSite wish.site) kept_log =
      each-left (IsOfSite wish.site) kept_log _ (subst (λ (l : List Record). Each (IsOfSite wish.site) l) now (log_own mentions begun votes sc (h ++ e ∷ []) wish.site may.given legal_e)) in
      record {
        orderly = orderly_read;
        begun = begun_read logs sets sounds sc h wish may ready.kept what.some is.read orderly_read same_brief;
        same = same_brief;
        log_orderly = orderly logs sets sounds sc h wish may ready.kept what.some;
        known = subst (λ (ts : List Txn). Each IsFoundByBits ts) (ap txns_of now ∙ no_txns kept_log up_next ∙ (same_alike wish.site kept_log is.read
            (orderly logs sets sounds sc h wish may ready.kept what.some) orderly_read (sym same_brief)).txns) all.known;
        of_site = brief_own wish.site kept_log own;
      }

  inc_now : ready.inc ≡ up_next
  inc_now = is.inc_is ∙ inc_is logs sets sounds sc h wish may ready.kept what.some is.read orderly_read same_brief

  pub records_now : ready.records ≡ rise_records sc wish.site up_next kept_log
  records_now =
      is.records_are ∙ ap (λ (n : ℕ). records_by wish n is.read) inc_now
      ∙ records_are logs sets sounds sc h wish may ready.kept what.some is.read orderly_read same_brief

  pub may_follow : IsOrderly wish.site (kept_log ++ ready.records)
  may_follow = subst (λ (rs : List Record). IsOrderly wish.site (kept_log ++ rs)) (sym records_now) (behind logs sets sounds sc h wish may ready.kept what.some)

  -- the frame was added: the site is up
  pub raised : (n : ℕ) (new : LogState D) → IsLogged meaning wish.site (entries_at h wish.site + 1) (kept_log ++ ready.records) n new →
      (meaning.meters new.disk).powered ≡ true → HasRaised meaning sc h wish.site old.disk ready.up new ready.rose n ready.kept ready.inc
  raised n new wrote lit =
      let e : Entry = rise_of wish.site ready.kept up_next in
      let mine : List Record = rise_records sc wish.site up_next kept_log in
      let now : log_of sc (h ++ e ∷ []) wish.site ≡ kept_log ++ ready.records =
      rise_log sc h wish.site ready.kept up_next ∙ ap (λ (rs : List Record). kept_log ++ rs) (sym records_now) in
      let P : ℕ → Type 0 = λ k. HasRaised meaning sc h wish.site old.disk ready.up new ready.rose n ready.kept k in
      let R : List Record → Type 0 = λ rs. StandsAlike sc (h ++ e ∷ []) wish.site rs ready.up in
      let Q : ℕ → Type 0 = λ m. IsLogged meaning wish.site m (log_of sc (h ++ e ∷ []) wish.site) n new in
      let L : List Record → Type 0 = λ l. IsLogged meaning wish.site (entries_at h wish.site + 1) l n new in
      let rebuilt : IsRebuilt wish.site (is.read ++ mine) ready.up = subst (λ (rs : List Record). IsRebuilt wish.site (is.read ++ rs) ready.up) records_now is.risen in
      subst P (sym inc_now) (record {
        allowed = allowed logs sets sounds sc h wish may ready.kept what.some;
        read = was_read;
        up = record {
          up = up_same h e wish.site (self wish.site);
          stands = record {
            alike = subst R (ap (λ (rs : List Record). is.read ++ rs) (sym records_now) ∙ sym is.rose_is)
                (stands_risen logs sets sounds sc h wish may ready.kept what.some is.read orderly_read same_brief ready.up rebuilt);
            risen = subst (λ (l : List Record). IsOrderly wish.site l) (ap (λ (rs : List Record). is.read ++ rs) (sym records_now) ∙ sym is.rose_is)
                (go_on logs sets sounds sc h wish may ready.kept what.some is.read orderly_read same_brief).0;
            order = order logs sets sounds sc h wish may ready.kept what.some;
          };
          logged = subst Q (sym (entries_on h wish.site e refl)) (subst L (sym now) wrote);
          lit = lit;
          inputs = let none : ready.up.inputs ≡ 0 = is.risen.inputs_are in omega (arith, none);
        };
      })

  -- or it was not, or may not have been
  pub not_raised : (n : ℕ) (new : LogState D) (why : Why) →
      ((bytes : List ℕ) → meaning.image new.disk bytes → ReadsLeft wish.site (meaning.meters new.disk).capacity (entries_at h wish.site + 1) kept_log ready.records n why bytes) →
      IsReason why kept_log ready.records (meaning.meters old.disk) (meaning.meters new.disk) →
      HasNotRaised meaning sc h wish.site old.disk new.disk n ready.kept ready.inc why
  not_raised n new why left reason =
      let e : Entry = rise_fall_of wish.site ready.kept up_next why in
      let mine : List Record = rise_records sc wish.site up_next kept_log in
      let cap : ℕ = (meaning.meters new.disk).capacity in
      let P : ℕ → Type 0 = λ k. HasNotRaised meaning sc h wish.site old.disk new.disk n ready.kept k why in
      subst P (sym inc_now) (record {
        allowed = allowed logs sets sounds sc h wish may ready.kept what.some;
        read = was_read;
        stands = λ bytes there.
            let M : ℕ → Type 0 = λ m. ReadsTold wish.site cap m n (moves_of sc (h ++ e ∷ []) wish.site) (open_tail sc (h ++ e ∷ []) wish.site) bytes in
            let T : Option Tail → Type 0 = λ t. ReadsTold wish.site cap (entries_at h wish.site + 1) n (moves_of sc (h ++ e ∷ []) wish.site) t bytes in
            let Q : List Move → Type 0 = λ ms. ReadsTold wish.site cap (entries_at h wish.site + 1) n ms (left_by why [] mine) bytes in
            let R : List Record → Type 0 = λ rs. ReadsTold wish.site cap (entries_at h wish.site + 1) n (moves_with sc h wish.site ready.kept) (left_by why [] rs) bytes in
            subst M (sym (entries_on h wish.site e refl)) (subst T (sym (rise_fall_tail sc h wish.site ready.kept up_next why))
            (subst Q (sym (rise_fall_moves sc h wish.site ready.kept up_next why))
            (subst R records_now
            (left_tells wish.site cap (entries_at h wish.site + 1) n (moves_with sc h wish.site ready.kept) why [] ready.records bytes (left bytes there)))));
        reason = subst (λ (rs : List Record). IsReason why kept_log rs (meaning.meters old.disk) (meaning.meters new.disk)) records_now reason;
      })

-- what was read of a disk was read of what it came from
abbrev read_since : {D : Type 0} (image : D → List ℕ → Type 0) (sc : Scenario) (h : List Entry) (site capacity : ℕ) (kept : Bool) (old mid : D) →
    Within (image old) (image mid) → IsRead sc h site capacity kept (image mid) → IsRead sc h site capacity kept (image old)
read_since image sc h site capacity kept old mid within read = record { bytes = read.bytes; at = within read.bytes read.at; reads = read.reads }

reason_since : (why : Why) (log records : List Record) (old mid new : Meters) → Keeps old mid → IsReason why log records mid new →
    IsReason why log records old new
reason_since Fault log records old mid new keeps reason = failed_since old.faults mid.faults new.faults keeps.faults reason
reason_since (Full need room) log records old mid new keeps reason = subst (λ (c : ℕ). LacksRoom c log records need room) keeps.capacity reason

-- what a rise makes of a disk it makes of what that came from
pub makes_since : {D : Type 0} (meaning : Meaning D) (sc : Scenario) (h : List Entry)
    (site : ℕ) (old mid : D) (state : State D) (r : Raised) → Within (meaning.image old) (meaning.image mid) → Keeps (meaning.meters old) (meaning.meters mid) →
    RiseMakes meaning sc h site mid state r → RiseMakes meaning sc h site old state r
makes_since meaning sc h site old mid (Up s l rose logged) (Risen kept inc) within keeps made = record {
  allowed = made.allowed;
  read = subst (λ (c : ℕ). IsRead sc h site c kept (meaning.image old)) keeps.capacity (read_since meaning.image sc h site (meaning.meters mid).capacity kept old mid within made.read);
  up = made.up;
}
makes_since meaning sc h site old mid (Up s l rose logged) (Failed kept inc why) within keeps made = absurd made
makes_since meaning sc h site old mid (Up s l rose logged) Missed within keeps made = absurd made
makes_since meaning sc h site old mid (Up s l rose logged) NoMemory within keeps made = absurd made
makes_since meaning sc h site old mid (Up s l rose logged) Foreign within keeps made = absurd made
makes_since meaning sc h site old mid (Down new logged) (Risen kept inc) within keeps made = absurd made
makes_since meaning sc h site old mid (Down new logged) (Failed kept inc why) within keeps made = record {
  allowed = made.allowed;
  read = subst (λ (c : ℕ). IsRead sc h site c kept (meaning.image old)) keeps.capacity (read_since meaning.image sc h site (meaning.meters mid).capacity kept old mid within made.read);
  stands = made.stands;
  reason = reason_since why _ _ (meaning.meters old) (meaning.meters mid) (meaning.meters new) keeps made.reason;
}
makes_since meaning sc h site old mid (Down new logged) Missed within keeps made =
    (made.0, failed_since (meaning.meters old).faults (meaning.meters mid).faults (meaning.meters new).faults keeps.faults made.1)
makes_since meaning sc h site old mid (Down new logged) NoMemory within keeps made = made
makes_since meaning sc h site old mid (Down new logged) Foreign within keeps made = absurd made

-- a disk whose images are some of another's tells what that does
pub disk_within : {D : Type 0} (meaning : Meaning D) (sc : Scenario) (h : List Entry) (site logged : ℕ) (old new : D) →
    Within (meaning.image old) (meaning.image new) → (meaning.meters new).capacity ≡ (meaning.meters old).capacity → DiskTells sc h site (meaning.meters old).capacity logged (meaning.image old) →
    DiskTells sc h site (meaning.meters new).capacity logged (meaning.image new)
disk_within meaning sc h site logged old new within same tells =
    subst (λ (c : ℕ). DiskTells sc h site c logged (meaning.image new)) (sym same) (λ bytes at. tells bytes (within bytes at))

-- so does a history that the disk has
pub history_within : {D : Type 0} (meaning : Meaning D) (wish : Wish) (logged : ℕ) (old new : D) → Within (meaning.image old) (meaning.image new) →
    (meaning.meters new).capacity ≡ (meaning.meters old).capacity → HasHistory meaning wish logged old → HasHistory meaning wish logged new
history_within meaning wish logged old new within same was = record {
  scenario = was.scenario;
  history = was.history;
  may = was.may;
  tells = disk_within meaning was.scenario was.history wish.site logged old new within same was.tells;
  few = was.few;
}

-- what a log that could not be opened makes of a rise, where the disk is not damaged
pub not_opened : {D : Type 0} (meaning : Meaning D) (sc : Scenario) (h : List Entry)
    (site logged : ℕ) (old new : D) (cause : OpenCause) → Within (meaning.image old) (meaning.image new) → (meaning.meters new).capacity ≡ (meaning.meters old).capacity →
    DiskTells sc h site (meaning.meters old).capacity logged (meaning.image old) → (cause ≡ causes.Failed → HasFailed (meaning.meters old).faults (meaning.meters new).faults) →
    ((at : ℕ) → cause ≡ causes.Damaged at → ⊥) → RiseMakes meaning sc h site old (Down new logged) (raised_of cause)
not_opened meaning sc h site logged old new causes.Failed within same tells rose sound = (disk_within meaning sc h site logged old new within same tells, rose refl)
not_opened meaning sc h site logged old new (causes.Damaged at) within same tells rose sound = absurd (sound at refl)
not_opened meaning sc h site logged old new causes.NoMemory within same tells rose sound = disk_within meaning sc h site logged old new within same tells

-- a rise that wanted memory, or whose disk is foreign, which it never is
pub unshortened : {D : Type 0} (meaning : Meaning D) (sc : Scenario) (h : List Entry) (site logged : ℕ)
    (old new : D) (fault : Unready) → (fault ≡ unready.Foreign → ⊥) → DiskTells sc h site (meaning.meters new).capacity logged (meaning.image new) →
    RiseMakes meaning sc h site old (Down new logged) (raised_by fault)
unshortened meaning sc h site logged old new unready.NoMemory never tells = tells
unshortened meaning sc h site logged old new unready.Foreign never tells = absurd (never refl)

-- what was read is the front of the records that a rise has
pub read_front : (wish : Wish) (logged : ℕ) (bodies : List (List ℕ)) (ready : Readied) → (is : IsReady wish logged bodies ready) → take ready.read ready.rose ≡ is.read
read_front wish logged bodies ready is =
    ap (λ (n : ℕ). take n ready.rose) is.read_is ∙ ap (take (length is.read)) is.rose_is ∙ front is.read ready.records
  where
    front : (xs ys : List Record) → take (length xs) (xs ++ ys) ≡ xs
    front [] ys = refl
    front (x ∷ xs) ys = ap (λ (l : List Record). x ∷ l) (front xs ys)
