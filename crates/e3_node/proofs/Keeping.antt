-- An entry of another owner changes nothing of a site, and what a node that stands tells of its disk.
use Rattle.std.specs.Prelude.{◌≤◌, filter}
use Rattle.std.proofs.Common.{◌≡◌, ◌≢◌, ◌++◌, ◌∷◌, [], ℕ, true, false, List, Option, length, refl, sym, subst, ap, ◌∙◌, append-nil, arith}
use Rattle.std.proofs.lemmas.Bool.{le-ltb}
use Rattle.e3_disk.specs.Images.{IsBlank}
use Rattle.e3_disk.specs.Meaning.{Meaning}
use Rattle.e3_world.specs.Brief.{brief}
use Rattle.e3_log.specs.Reading.{ReadsAs as BytesReadAs}
use Rattle.e3_log.specs.Stands.{LogState}
use Rattle.e3_log.proofs.Unique.{blank_text}
use Rattle.e3_node.specs.Bodies.{DiskHolds, DiskTells, ReadsTold, ReadsWith, entries_at}
use Rattle.e3_node.specs.Claims.{DisksKept, NodesDisks, NodesKept, NodesUp}
use Rattle.e3_node.specs.NodeStands.{IsFallen, IsIn, StandsBy, is_step, logged_in}
use Rattle.e3_node.specs.NodeView.{disk_of, is_up_in}
use Rattle.e3_node.specs.declared.state.State.{State}
use Rattle.e3_node.specs.declared.state.State.TheVariants.{Down, Up}
use Rattle.e3_site.specs.StandsAlike.{IsLogInOrder}
use Rattle.e3_site.proofs.Alike.{still}
use Rattle.e3_site.specs.SiteView.{SiteView}
use Rattle.e3_node.specs.site_log.Bodies.{IsLogged, ReadsAs, bodies_in, counted, joined}
use Rattle.e3_node.proofs.site_log.Holding.{hold_nothing}
use Rattle.e3_types.specs.declared.records.Record.{Record}
use Rattle.e3_types.specs.declared.entries.Entry.{Entry}
use Rattle.e3_types.specs.declared.scenarios.Scenario.{Scenario}
use Rattle.e3_world.specs.Items.{is_up_at}
use Rattle.e3_world.specs.Moves.{Move, Tail, is_up, log_by, moves_of, open_tail, own_entries, past_of}
use Rattle.e3_world.proofs.Readings.{own_other}
use Rattle.e3_node.proofs.Apart.{apart}
use Rattle.e3_node.proofs.Left.{opened_reads, reads_alike, tells_holds}

pub own_kept : (site : ℕ) (h : List Entry) (e : Entry) → e.owner ≢ site → own_entries site (h ++ e ∷ []) ≡ own_entries site h
own_kept site h e other = own_other site h e (apart e.owner site other)

pub moves_kept : (sc : Scenario) (h : List Entry) (e : Entry) (site : ℕ) → e.owner ≢ site → moves_of sc (h ++ e ∷ []) site ≡ moves_of sc h site
moves_kept sc h e site other = ap (λ (mine : List Entry). (past_of sc site mine).moves) (own_kept site h e other)

pub disk_kept : (sc : Scenario) (h : List Entry) (e : Entry) (site capacity : ℕ) (image : List ℕ → Type 0) → DiskHolds sc h site capacity image →
    e.owner ≢ site → DiskHolds sc (h ++ e ∷ []) site capacity image
disk_kept sc h e site capacity image stands other = λ bytes at.
    let P : List Entry → Type 0 = λ mine. ReadsWith site capacity (length mine) (past_of sc site mine).moves (past_of sc site mine).tail bytes in
    subst P (sym (own_kept site h e other)) (stands bytes at)

told_kept : (sc : Scenario) (h : List Entry) (e : Entry) (site capacity logged : ℕ) (image : List ℕ → Type 0) → DiskTells sc h site capacity logged image →
    e.owner ≢ site → DiskTells sc (h ++ e ∷ []) site capacity logged image
told_kept sc h e site capacity logged image tells other = λ bytes at.
    let P : List Entry → Type 0 = λ mine. ReadsTold site capacity (length mine) logged (past_of sc site mine).moves (past_of sc site mine).tail bytes in
    subst P (sym (own_kept site h e other)) (tells bytes at)

pub up_kept : (h : List Entry) (e : Entry) (site : ℕ) → e.owner ≢ site → is_up_at (h ++ e ∷ []) site ≡ is_up_at h site
up_kept h e site other = ap is_up (own_kept site h e other)

site_kept : (sc : Scenario) (h : List Entry) (e : Entry) (site : ℕ) (rose : List Record) (s : SiteView) → StandsBy sc h site rose s → e.owner ≢ site →
    StandsBy sc (h ++ e ∷ []) site rose s
site_kept sc h e site rose s was other = record {
  alike = still sc h (h ++ e ∷ []) site rose s s was.alike (sym (moves_kept sc h e site other)) refl refl was.alike.stands;
  risen = was.risen;
  order =
      let P : List Move → Type 0 = λ moves. IsLogInOrder site (log_by moves) in
      subst P (sym (moves_kept sc h e site other)) was.order;
}

pub in_kept : {D : Type 0} (meaning : Meaning D)
    (sc : Scenario) (h : List Entry) (e : Entry) (site : ℕ) (state : State D) → IsIn meaning sc h site state → e.owner ≢ site →
    IsIn meaning sc (h ++ e ∷ []) site state
in_kept meaning sc h e site (Down disk logged) was other = record {
  down = up_kept h e site other ∙ was.down;
  stands = told_kept sc h e site (meaning.meters disk).capacity logged (meaning.image disk) was.stands other;
}
in_kept meaning sc h e site (Up s log rose logged) was other = record {
  up = up_kept h e site other ∙ was.up;
  stands = site_kept sc h e site rose s was.stands other;
  logged =
      let P : List Entry → Type 0 = λ mine. IsLogged meaning site (length mine) (log_by (past_of sc site mine).moves) logged log in
      subst P (sym (own_kept site h e other)) was.logged;
  lit = was.lit;
  inputs =
      let P : List Entry → Type 0 = λ mine. s.inputs ≤ length (filter is_step mine) in
      subst P (sym (own_kept site h e other)) was.inputs;
}

pub node_kept : {D : Type 0} (meaning : Meaning D) → NodesKept meaning
node_kept meaning sc h e node was other = record {
  some = was.some;
  exists = was.exists;
  weights_are = was.weights_are;
  rows_are = was.rows_are;
  state = in_kept meaning sc h e node.site node.state was.state other;
}

-- what a log holds its disk tells: no tail is open to it
pub logged_tells : {D : Type 0} (meaning : Meaning D) (site most logged : ℕ) (moves : List Move) (tail : Option Tail)
    (log : LogState D) → IsLogged meaning site most (log_by moves) logged log → (bytes : List ℕ) → meaning.image log.disk bytes →
    ReadsTold site (meaning.meters log.disk).capacity most logged moves tail bytes
logged_tells meaning site most logged moves tail log was bytes at =
    let count : logged ≡ counted (length (joined was.lists)) = was.logged_is in
    let it : ReadsAs site (meaning.meters log.disk).capacity most (log_by moves) bytes = record {
      lists = was.lists;
      hold = was.hold;
      generation = log.generation;
      few = was.few;
      reads = subst (λ (b : List ℕ). BytesReadAs (meaning.meters log.disk).capacity log.generation (bodies_in was.lists) b) (sym (was.stands.only bytes at))
          (opened_reads meaning (bodies_in was.lists) log was.stands);
    } in
    record {
      kept = false;
      reads = reads_alike site (meaning.meters log.disk).capacity most (log_by moves) (log_by (moves ++ [])) bytes (ap (λ (ms : List Move). brief (log_by ms)) (sym (append-nil moves))) it;
      told = λ few. sym (le-ltb logged (length (joined was.lists)) (omega (arith, few, count)));
      some = λ yes. absurd (let both : false ≡ true = yes in cc);
    }

-- so the disk of a state tells
pub told_in : {D : Type 0} (meaning : Meaning D)
    (sc : Scenario) (h : List Entry) (site : ℕ) (state : State D) → IsIn meaning sc h site state → IsFallen meaning sc h site state
told_in meaning sc h site (Down disk logged) was = was.stands
told_in meaning sc h site (Up s log rose logged) was = λ bytes at.
    logged_tells meaning site (entries_at h site) logged (moves_of sc h site) (open_tail sc h site) log was.logged bytes at

pub disk_in : {D : Type 0} (meaning : Meaning D) (sc : Scenario) (h : List Entry) (site : ℕ) (state : State D) → IsIn meaning sc h site state →
    DiskHolds sc h site (meaning.meters (disk_of state)).capacity (meaning.image (disk_of state))
disk_in meaning sc h site state was =
    tells_holds sc h site (meaning.meters (disk_of state)).capacity (logged_in state) (meaning.image (disk_of state)) (told_in meaning sc h site state was)

-- a blank disk stands for a site without entries
pub blank_tells : {D : Type 0} (meaning : Meaning D) (sc : Scenario) (site : ℕ) (d : D) →
    2 ≤ (meaning.meters d).capacity → IsBlank meaning d → DiskTells sc [] site (meaning.meters d).capacity 0 (meaning.image d)
blank_tells meaning sc site d least blank = λ bytes left. record {
  kept = false;
  reads = record {
    lists = [];
    hold = hold_nothing site;
    generation = 0;
    few = omega arith;
    reads = subst (λ (b : List ℕ). BytesReadAs (meaning.meters d).capacity 0 [] b) (sym (blank.1 bytes left ∙ blank.0)) (blank_text (meaning.meters d).capacity least);
  };
  told = λ few. refl;
  some = λ yes. absurd (let both : false ≡ true = yes in cc);
}

pub node_disk : {D : Type 0} (meaning : Meaning D) → NodesDisks meaning
node_disk meaning sc h node was = record { holds = disk_in meaning sc h node.site node.state was.state }

pub up_in : {D : Type 0} (meaning : Meaning D) (sc : Scenario) (h : List Entry) (site : ℕ) (state : State D) → IsIn meaning sc h site state →
    is_up_in state ≡ is_up_at h site
up_in meaning sc h site (Down disk logged) was = sym was.down
up_in meaning sc h site (Up s log rose logged) was = sym was.up

pub node_up : {D : Type 0} (meaning : Meaning D) → NodesUp meaning
node_up meaning sc h node was = up_in meaning sc h node.site node.state was.state

pub disks_kept : {D : Type 0} (meaning : Meaning D) → DisksKept meaning
disks_kept meaning sc h e site disk stands other = record { holds = disk_kept sc h e site (meaning.meters disk).capacity (meaning.image disk) stands.holds other }
