-- A whole step of a site keeps the rules of the protocol of each transaction.
use Rattle.std.proofs.Common.{◌≡◌, ◌∷◌, [], ◌==◌, ℕ, zero, suc, true, false, List, fold, length, refl, sym, subst}
use Rattle.std.specs.List.{list_all}
use Rattle.std.proofs.lemmas.Bool.{and_parts}
use Rattle.e3_types.specs.declared.entries.Input.{Input}
use Rattle.e3_types.specs.declared.entries.Input.TheVariants as input
use Rattle.e3_types.specs.declared.messages.Message.{Message}
use Rattle.e3_types.specs.declared.messages.Message.TheVariants as msg
use Rattle.e3_types.specs.declared.messages.Packet.{Packet}
use Rattle.e3_types.specs.declared.transactions.Txn.{Txn}
use Rattle.e3_types.specs.Same.{same_txn}
use Rattle.e3_types.specs.Sets.{has_site}
use Rattle.e3_world.specs.declared.lives.Made.{Made}
use Rattle.e3_world.specs.Making.{nothing, elected_now, and_grants}
use Rattle.e3_world.specs.Messages.{on_message}
use Rattle.e3_world.specs.Steps.{on_input, handled, settle, step_at}
use Rattle.e3_laws.specs.agreement.Logs.{IsIn}
use Rattle.e3_laws.specs.agreement.Rules.{Word, Yes, Elected, Report, Pre, Ack, Decide, Other, Came, letter}
use Rattle.e3_laws.specs.agreement.Verdicts.{status_in}
use Rattle.e3_laws.specs.agreement.Views.{words_of, word_if}
use Rattle.e3_laws.specs.agreement.Rows.{Here, notes_now, WasHeard, IsFromAway, MayTake, is_for_members, waits_here, Stands, Good}
use Rattle.e3_laws.proofs.agreement.Refinement.Lists.{same_from}
use Rattle.e3_laws.proofs.agreement.Refinement.Makers.{MayLeave, keep_send}
use Rattle.e3_laws.proofs.agreement.Refinement.Deciding.{only_word, keep_grants}
use Rattle.e3_laws.proofs.agreement.Refinement.Operations.{row_do, row_done, row_died, row_no, row_decide}
use Rattle.e3_laws.proofs.agreement.Refinement.Votes.{row_vote_req}
use Rattle.e3_laws.proofs.agreement.Refinement.Attempts.{row_pre, row_elected}
use Rattle.e3_laws.proofs.agreement.Refinement.Gatherings.{in_word}
use Rattle.e3_laws.proofs.agreement.Refinement.Rounds.{row_yes, row_ack}
use Rattle.e3_laws.proofs.agreement.Refinement.Inputs.{good_nothing, row_begin, row_issue, row_commits, row_cancel, row_expire}
use Rattle.e3_laws.proofs.agreement.Refinement.Elections.{row_report, row_last, row_elect}
use Rattle.e3_laws.proofs.steps.Tests.{same_is}

-- each message of a packet that the step takes
good_delivery : (h : Here) (packet : Packet) → Stands h → h.at.input ≡ input.Deliver packet → (z : Message) → packet.msg ≡ z → Good h (on_message h.at packet.«from» z nothing)
good_delivery h packet s is z says = by z says
  where
    f : ℕ
    f = packet.«from»

    away : (f == h.at.site) ≡ false
    away = let far : IsFromAway h.at.site (input.Deliver packet) = subst (λ i. IsFromAway h.at.site i) is s.away in far

    took : WasHeard h (input.Deliver packet)
    took = subst (λ i. WasHeard h i) is s.taken

    came : (w : Word) (z : Message) → packet.msg ≡ z → IsIn w (words_of h.txn z) → Came h.before.sent f h.at.site w
    came w z says k = took w (subst (λ y. IsIn w (words_of h.txn y)) (sym says) k)

    both : (u : Txn) (w : Word) (z : Message) → packet.msg ≡ z → (h.txn ≡ u → IsIn w (words_of h.txn z)) → is_for_members w ≡ true → h.txn ≡ u
        → (has_site u.sites h.at.site ≡ true) × (has_site u.sites f ≡ true)
    both u w z says k members same =
        let m = (s.well (letter f h.at.site w) (came w z says (k same))).members members in
        subst (λ (v : Txn). (has_site v.sites h.at.site ≡ true) × (has_site v.sites f ≡ true)) same (m.1, m.0)

    word : (u : Txn) (w : Word) → h.txn ≡ u → IsIn w (word_if (same_txn h.txn u) w)
    word u w same = in_word (same_txn h.txn u) w (same_from h.txn u same)

    by : (z : Message) → packet.msg ≡ z → Good h (on_message h.at f z nothing)
    by (msg.Do u n op) says = row_do h nothing f u n op s (good_nothing h) (λ same. (both u Other (msg.Do u n op) says (word u Other) refl same).0)
    by (msg.Done u n inc answer) says = row_done h nothing f u n inc answer s (good_nothing h)
    by (msg.Died u n older) says = row_died h nothing u older s (good_nothing h)
    by (msg.Ask u call) says =
        keep_send h nothing f (msg.LastElected u call (elected_now h.at u nothing)) (good_nothing h) (λ q. (let apart : (f == h.at.site) ≡ false = away in cc))
        (only_word (λ w. MayLeave h (notes_now h nothing) f w) (same_txn h.txn u) Other
        (λ q. (tt, λ n. subst (λ (v : Txn). (has_site v.sites h.at.site ≡ true) × (has_site v.sites f ≡ true)) (sym (same_is h.txn u q)) (both u Other (msg.Ask u call) says (word u Other) refl (same_is h.txn u q)))))
    by (msg.LastElected u call number) says =
        row_last h f u call number s (rw (is, says) refl) (λ same. (both u Other (msg.LastElected u call number) says (word u Other) refl same).0)
    by (msg.Elected u n) says =
        row_elected h nothing f u n s (good_nothing h) refl (s.kept.orderly h.at.site) away (rw (is, says) refl)
        (both u (Elected n) (msg.Elected u n) says (word u (Elected n)) refl)
        (λ same. came (Elected n) (msg.Elected u n) says (word u (Elected n) same))
    by (msg.Report u n st attempt) says =
        row_report h u n (record { site = f; state = st; attempt = attempt }) s
        (λ same. (both u (Report n (status_in st) attempt) (msg.Report u n st attempt) says (word u (Report n (status_in st) attempt)) refl same).0)
        (λ same. came (Report n (status_in st) attempt) (msg.Report u n st attempt) says (word u (Report n (status_in st) attempt) same))
    by (msg.VoteReq u inc count) says = row_vote_req h nothing f u inc count s (good_nothing h) away (both u Other (msg.VoteReq u inc count) says (word u Other) refl)
    by (msg.Vote u true) says = row_yes h nothing u s (good_nothing h) (λ same. (both u Yes (msg.Vote u true) says (word u Yes) refl same).0)
    by (msg.Vote u false) says = row_no h nothing u s (good_nothing h)
    by (msg.Pre u n dir) says =
        row_pre h nothing f u n dir s (good_nothing h) (s.kept.orderly h.at.site) away (both u (Pre n dir) (msg.Pre u n dir) says (word u (Pre n dir)) refl)
        (λ same. came (Pre n dir) (msg.Pre u n dir) says (word u (Pre n dir) same))
    by (msg.Ack u n dir) says =
        row_ack h nothing f u n dir s (good_nothing h) (λ same. (both u (Ack n dir) (msg.Ack u n dir) says (word u (Ack n dir)) refl same).0)
        (λ same. came (Ack n dir) (msg.Ack u n dir) says (word u (Ack n dir) same))
    by (msg.Decide u dir) says =
        row_decide h nothing f u dir s (good_nothing h) (λ same. came (Decide dir) (msg.Decide u dir) says (word u (Decide dir) same))

-- each input
pub good_input : (h : Here) → Stands h → (i : Input) → h.at.input ≡ i → MayTake h.at.site i → Good h (on_input h.at i nothing)
good_input h s (input.Begin sites) is fits = row_begin h sites
good_input h s (input.Do u op) is fits = row_issue h u op fits.0 fits.1
good_input h s (input.Commit u) is fits = row_commits h u s fits.0 fits.1
good_input h s (input.Cancel u) is fits = row_cancel h u s fits
good_input h s (input.Expire u) is fits = row_expire h u s fits
good_input h s (input.Elect u group) is fits = row_elect h u group s (rw is refl) fits.0 fits.1 fits.2
good_input h s (input.Deliver packet) is fits = good_delivery h packet s is packet.msg refl

-- a message of the step to its own site
good_handled : (h : Here) (made : Made) (m : Message) → Stands h → Good h made → waits_here h.at.site m ≡ true → Good h (handled h.at made m)
good_handled h made m s good waits = keep_grants h (length made.records) (on_message h.at h.at.site m made) (by m waits)
  where
    by : (m : Message) → waits_here h.at.site m ≡ true → Good h (on_message h.at h.at.site m made)
    by (msg.Do u n op) waits = row_do h made h.at.site u n op s good (λ same. waits)
    by (msg.Done u n inc answer) waits = row_done h made h.at.site u n inc answer s good
    by (msg.Vote u false) waits = row_no h made u s good
    by (msg.Vote u true) waits = cc
    by (msg.Died u n older) waits = cc
    by (msg.Ask u call) waits = cc
    by (msg.LastElected u call number) waits = cc
    by (msg.Elected u n) waits = cc
    by (msg.Report u n st attempt) waits = cc
    by (msg.VoteReq u inc count) waits = cc
    by (msg.Pre u n dir) waits = cc
    by (msg.Ack u n dir) waits = cc
    by (msg.Decide u dir) waits = cc

good_each : (h : Here) (ms : List Message) (made : Made) → Stands h → Good h made → list_all (waits_here h.at.site) ms ≡ true → Good h (fold (handled h.at) made ms)
good_each h [] made s good waits = good
good_each h (m ∷ ms) made s good waits =
    let p = and_parts (waits_here h.at.site m) (list_all (waits_here h.at.site) ms) waits in
    good_each h ms (handled h.at made m) s (good_handled h made m s good p.0) p.1

good_settle : (h : Here) (k : ℕ) (made : Made) → Stands h → Good h made → Good h (settle k h.at made)
good_settle h zero made s good = good
good_settle h (suc k) made s good =
    good_settle h k (fold (handled h.at) (record made { own = [] }) made.own) s
    (good_each h made.own (record made { own = [] }) s (record { notes = good.notes; outs = good.outs; from_here = good.from_here; sends = good.sends; own = refl; joins = good.joins }) good.own)

-- the whole step
pub good_step : (h : Here) → Stands h → MayTake h.at.site h.at.input → Good h (step_at h.at)
good_step h s fits =
    good_settle h 3 (and_grants h.at 0 (on_input h.at h.at.input nothing)) s (keep_grants h 0 (on_input h.at h.at.input nothing) (good_input h s h.at.input refl fits))
