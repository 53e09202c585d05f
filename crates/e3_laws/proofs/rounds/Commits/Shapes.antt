-- The packets of a commit round, and what they weigh.
use Rattle.std.proofs.Common.{◌≡◌, ◌==◌, ◌&&◌, ◌≤◌, ℕ, Bool, true, false, not, List, refl, ap, sym, ◌∙◌, if◌then◌else◌, eqb-true, true≢false, arith, nat_le}
use Rattle.std.proofs.lemmas.Bool.{and_parts, and_from}
use Rattle.std.proofs.lemmas.Grind.{common_steps}
use Rattle.e3_types.specs.declared.messages.Message.{Message}
use Rattle.e3_types.specs.declared.messages.Message.TheVariants as msg
use Rattle.e3_types.specs.declared.messages.Packet.{Packet}
use Rattle.e3_types.specs.declared.transactions.Dir.{Dir}
use Rattle.e3_types.specs.declared.transactions.Dir.TheVariants.{Abort, Commit}
use Rattle.e3_types.specs.declared.transactions.Txn.{Txn}
use Rattle.e3_types.specs.Same.{same_dir, same_txn}
use Rattle.e3_types.specs.Sets.{has_site, others}
use Rattle.e3_world.specs.declared.lives.Expected.{Expected}
use Rattle.e3_laws.specs.rounds.Commits.{is_packet_of}
use Rattle.e3_laws.proofs.rounds.Commits.Beside.{other_packet}
use Rattle.e3_laws.proofs.rounds.Commits.Effects.{Weighs}
use Rattle.e3_laws.proofs.steps.Tests.{same_is, not_true}

-- the sites of the transaction but its coordinator
abbrev pub rest_of : Txn → List ℕ
rest_of t = others t.site t.sites

-- what is pending in a stage: 1 while votes come, 2 behind the attempt, 3 behind the decision
abbrev pub is_shaped : Txn → (ℕ → Expected) → ℕ → Packet → Bool
is_shaped t wants k p = by p.msg
  where
    by : Message → Bool
    by (msg.VoteReq u inc count) = (same_txn t u && p.«from» == t.site && has_site (rest_of t) p.to) && (inc == (wants p.to).inc && count == (wants p.to).count)
    by (msg.Vote u said) = (same_txn t u && p.to == t.site && has_site (rest_of t) p.«from») && said
    by (msg.Pre u n dir) = (same_txn t u && p.«from» == t.site && has_site (rest_of t) p.to) && (n == 1 && same_dir dir Commit && nat_le 2 k)
    by (msg.Ack u n dir) = (same_txn t u && p.to == t.site && has_site (rest_of t) p.«from») && (n == 1 && same_dir dir Commit && nat_le 2 k)
    by (msg.Decide u dir) = if same_txn t u then (p.«from» == t.site && has_site (rest_of t) p.to) && (same_dir dir Commit && nat_le 3 k) else true
    by (msg.Done u n inc answer) = not (same_txn t u)
    by _ = false

pub data Kind (t : Txn) (wants : ℕ → Expected) (k : ℕ) (p : Packet) : Type 0 where
  Request : p.msg ≡ msg.VoteReq t (wants p.to).inc (wants p.to).count → p.«from» ≡ t.site → has_site (rest_of t) p.to ≡ true → Kind t wants k p
  Voice : p.msg ≡ msg.Vote t true → p.to ≡ t.site → has_site (rest_of t) p.«from» ≡ true → Kind t wants k p
  Preparing : p.msg ≡ msg.Pre t 1 Commit → p.«from» ≡ t.site → has_site (rest_of t) p.to ≡ true → nat_le 2 k ≡ true → Kind t wants k p
  Acking : p.msg ≡ msg.Ack t 1 Commit → p.to ≡ t.site → has_site (rest_of t) p.«from» ≡ true → nat_le 2 k ≡ true → Kind t wants k p
  Ending : p.msg ≡ msg.Decide t Commit → p.«from» ≡ t.site → has_site (rest_of t) p.to ≡ true → nat_le 3 k ≡ true → Kind t wants k p
  Other : other_packet t p ≡ true → Kind t wants k p

dir_is : (dir : Dir) → same_dir dir Commit ≡ true → dir ≡ Commit
dir_is Commit is = refl
dir_is Abort is = absurd cc

three : (a b c : Bool) → (a && b && c) ≡ true → (a ≡ true) × (b ≡ true) × (c ≡ true)
three a b c is = let outer = and_parts (a && b) c is in let inner = and_parts a b outer.0 in (inner.0, inner.1, outer.1)

pub kind_of : (t : Txn) (wants : ℕ → Expected) (k : ℕ) (p : Packet) → is_shaped t wants k p ≡ true → Kind t wants k p
kind_of t wants k p shaped = by p.msg refl
  where
    clash : {A : Type 0} → is_shaped t wants k p ≡ false → A
    clash none = absurd (true≢false (sym shaped ∙ none))

    by : (m : Message) → p.msg ≡ m → Kind t wants k p
    by (msg.VoteReq u inc count) is =
        let said : ((same_txn t u && p.«from» == t.site && has_site (rest_of t) p.to) && (inc == (wants p.to).inc && count == (wants p.to).count)) ≡ is_shaped t wants k p = rw is refl in
        let outer = and_parts (same_txn t u && p.«from» == t.site && has_site (rest_of t) p.to) (inc == (wants p.to).inc && count == (wants p.to).count) (said ∙ shaped) in
        let parts = three (same_txn t u) (p.«from» == t.site) (has_site (rest_of t) p.to) outer.0 in
        let more = and_parts (inc == (wants p.to).inc) (count == (wants p.to).count) outer.1 in
        Kind.Request (is ∙ ap (λ (x : Txn). msg.VoteReq x inc count) (sym (same_is t u parts.0)) ∙ ap (λ n. msg.VoteReq t n count) (eqb-true inc (wants p.to).inc more.0)
        ∙ ap (λ n. msg.VoteReq t (wants p.to).inc n) (eqb-true count (wants p.to).count more.1)) (eqb-true p.«from» t.site parts.1) parts.2
    by (msg.Vote u said) is =
        let says : ((same_txn t u && p.to == t.site && has_site (rest_of t) p.«from») && said) ≡ is_shaped t wants k p = rw is refl in
        let outer = and_parts (same_txn t u && p.to == t.site && has_site (rest_of t) p.«from») said (says ∙ shaped) in
        let parts = three (same_txn t u) (p.to == t.site) (has_site (rest_of t) p.«from») outer.0 in
        Kind.Voice (is ∙ ap (λ (x : Txn). msg.Vote x said) (sym (same_is t u parts.0)) ∙ ap (msg.Vote t) outer.1) (eqb-true p.to t.site parts.1) parts.2
    by (msg.Pre u n dir) is =
        let says : ((same_txn t u && p.«from» == t.site && has_site (rest_of t) p.to) && (n == 1 && same_dir dir Commit && nat_le 2 k)) ≡ is_shaped t wants k p = rw is refl in
        let outer = and_parts (same_txn t u && p.«from» == t.site && has_site (rest_of t) p.to) (n == 1 && same_dir dir Commit && nat_le 2 k) (says ∙ shaped) in
        let parts = three (same_txn t u) (p.«from» == t.site) (has_site (rest_of t) p.to) outer.0 in
        let more = three (n == 1) (same_dir dir Commit) (nat_le 2 k) outer.1 in
        Kind.Preparing (is ∙ ap (λ (x : Txn). msg.Pre x n dir) (sym (same_is t u parts.0)) ∙ ap (λ m. msg.Pre t m dir) (eqb-true n 1 more.0) ∙ ap (msg.Pre t 1) (dir_is dir more.1))
        (eqb-true p.«from» t.site parts.1) parts.2 more.2
    by (msg.Ack u n dir) is =
        let says : ((same_txn t u && p.to == t.site && has_site (rest_of t) p.«from») && (n == 1 && same_dir dir Commit && nat_le 2 k)) ≡ is_shaped t wants k p = rw is refl in
        let outer = and_parts (same_txn t u && p.to == t.site && has_site (rest_of t) p.«from») (n == 1 && same_dir dir Commit && nat_le 2 k) (says ∙ shaped) in
        let parts = three (same_txn t u) (p.to == t.site) (has_site (rest_of t) p.«from») outer.0 in
        let more = three (n == 1) (same_dir dir Commit) (nat_le 2 k) outer.1 in
        Kind.Acking (is ∙ ap (λ (x : Txn). msg.Ack x n dir) (sym (same_is t u parts.0)) ∙ ap (λ m. msg.Ack t m dir) (eqb-true n 1 more.0) ∙ ap (msg.Ack t 1) (dir_is dir more.1))
        (eqb-true p.to t.site parts.1) parts.2 more.2
    by (msg.Decide u dir) is = choose (same_txn t u) refl
      where
        choose : (b : Bool) → same_txn t u ≡ b → Kind t wants k p
        choose true same =
            let says : ((p.«from» == t.site && has_site (rest_of t) p.to) && (same_dir dir Commit && nat_le 3 k)) ≡ is_shaped t wants k p = rw is (rw same refl) in
            let outer = and_parts (p.«from» == t.site && has_site (rest_of t) p.to) (same_dir dir Commit && nat_le 3 k) (says ∙ shaped) in
            let parts = and_parts (p.«from» == t.site) (has_site (rest_of t) p.to) outer.0 in
            let more = and_parts (same_dir dir Commit) (nat_le 3 k) outer.1 in
            Kind.Ending (is ∙ ap (λ (x : Txn). msg.Decide x dir) (sym (same_is t u same)) ∙ ap (msg.Decide t) (dir_is dir more.0)) (eqb-true p.«from» t.site parts.0) parts.1 more.1
        choose false same = Kind.Other (rw is (rw same refl))
    by (msg.Done u n inc answer) is = Kind.Other (let says : not (same_txn t u) ≡ is_shaped t wants k p = rw is refl in let other : other_packet t p ≡ not (same_txn t u) = rw is refl in other ∙ says ∙ shaped)
    by (msg.Do u n op) is = clash (rw is refl)
    by (msg.Died u n older) is = clash (rw is refl)
    by (msg.Ask u call) is = clash (rw is refl)
    by (msg.LastElected u call elected) is = clash (rw is refl)
    by (msg.Elected u n) is = clash (rw is refl)
    by (msg.Report u n state attempt) is = clash (rw is refl)

-- what a packet weighs: how many entries of the transaction it may lead to, itself among them, but for those of the
-- coordinator's attempt and decision
abbrev pub weight_of : Txn → Packet → ℕ
weight_of t p = if is_packet_of t p then by p.msg else 0
  where
    by : Message → ℕ
    by (msg.VoteReq u inc count) = 2
    by (msg.Vote u said) = 1
    by (msg.Pre u n dir) = 2
    by (msg.Ack u n dir) = 1
    by (msg.Decide u dir) = 1
    by _ = 0

-- what is another's is none of the transaction
pub other_not : (t : Txn) (p : Packet) → other_packet t p ≡ true → is_packet_of t p ≡ false
other_not t p other = by p.msg refl
  where
    by : (m : Message) → p.msg ≡ m → is_packet_of t p ≡ false
    by (msg.Done u n inc answer) is = let says : not (same_txn t u) ≡ other_packet t p = rw is refl in rw is (not_true (same_txn t u) (says ∙ other))
    by (msg.Decide u dir) is = let says : not (same_txn t u) ≡ other_packet t p = rw is refl in rw is (not_true (same_txn t u) (says ∙ other))
    by m is = absurd (let off : other_packet t p ≡ false = rw is refl in true≢false (sym other ∙ off))

pub weighs : (t : Txn) → Weighs t (weight_of t)
weighs t = record {
  blind = λ p n. refl;
  alone = λ p none. rw none refl;
  other = λ p other. rw (other_not t p other) refl;
}

-- a later stage allows what an earlier one does
above : (b : Bool) (j k n : ℕ) → j ≤ k → (b && nat_le n j) ≡ true → (b && nat_le n k) ≡ true
above b j k n less is =
    let parts = and_parts b (nat_le n j) is in
    let more : nat_le n k ≡ true = grind (arith, common_steps, less, parts.1) in
    rw (parts.0, more) refl

pub later_shape : (t : Txn) (wants : ℕ → Expected) (j k : ℕ) (p : Packet) → j ≤ k → is_shaped t wants j p ≡ true → is_shaped t wants k p ≡ true
later_shape t wants j k p less shaped = by p.msg refl
  where
    by : (m : Message) → p.msg ≡ m → is_shaped t wants k p ≡ true
    by (msg.Pre u n dir) is =
        let says : ((same_txn t u && p.«from» == t.site && has_site (rest_of t) p.to) && (n == 1 && same_dir dir Commit && nat_le 2 j)) ≡ is_shaped t wants j p = rw is refl in
        let outer = and_parts (same_txn t u && p.«from» == t.site && has_site (rest_of t) p.to) (n == 1 && same_dir dir Commit && nat_le 2 j) (says ∙ shaped) in
        rw is (and_from (same_txn t u && p.«from» == t.site && has_site (rest_of t) p.to) (n == 1 && same_dir dir Commit && nat_le 2 k) outer.0 (above (n == 1 && same_dir dir Commit) j k 2 less outer.1))
    by (msg.Ack u n dir) is =
        let says : ((same_txn t u && p.to == t.site && has_site (rest_of t) p.«from») && (n == 1 && same_dir dir Commit && nat_le 2 j)) ≡ is_shaped t wants j p = rw is refl in
        let outer = and_parts (same_txn t u && p.to == t.site && has_site (rest_of t) p.«from») (n == 1 && same_dir dir Commit && nat_le 2 j) (says ∙ shaped) in
        rw is (and_from (same_txn t u && p.to == t.site && has_site (rest_of t) p.«from») (n == 1 && same_dir dir Commit && nat_le 2 k) outer.0 (above (n == 1 && same_dir dir Commit) j k 2 less outer.1))
    by (msg.Decide u dir) is = choose (same_txn t u) refl
      where
        choose : (b : Bool) → same_txn t u ≡ b → is_shaped t wants k p ≡ true
        choose true same =
            let says : ((p.«from» == t.site && has_site (rest_of t) p.to) && (same_dir dir Commit && nat_le 3 j)) ≡ is_shaped t wants j p = rw is (rw same refl) in
            let outer = and_parts (p.«from» == t.site && has_site (rest_of t) p.to) (same_dir dir Commit && nat_le 3 j) (says ∙ shaped) in
            rw is (rw same (and_from (p.«from» == t.site && has_site (rest_of t) p.to) (same_dir dir Commit && nat_le 3 k) outer.0 (above (same_dir dir Commit) j k 3 less outer.1)))
        choose false same = rw is (rw same refl)
    by m is = let same : is_shaped t wants k p ≡ is_shaped t wants j p = rw is refl in same ∙ shaped

-- others' packets have the shape
pub other_shape : (t : Txn) (wants : ℕ → Expected) (k : ℕ) (p : Packet) → other_packet t p ≡ true → is_shaped t wants k p ≡ true
other_shape t wants k p other = by p.msg refl
  where
    by : (m : Message) → p.msg ≡ m → is_shaped t wants k p ≡ true
    by (msg.Done u n inc answer) is = let says : is_shaped t wants k p ≡ other_packet t p = rw is refl in says ∙ other
    by (msg.Decide u dir) is = let says : not (same_txn t u) ≡ other_packet t p = rw is refl in rw is (rw (not_true (same_txn t u) (says ∙ other)) refl)
    by m is = absurd (let off : other_packet t p ≡ false = rw is refl in true≢false (sym other ∙ off))

-- that a request to this site is pending, or its vote, or a preparation for it, or its acknowledgement, or a decision for it
abbrev pub asks : Txn → ℕ → Packet → Bool
asks t y p = by p.msg
  where
    by : Message → Bool
    by (msg.VoteReq u inc count) = same_txn t u && p.to == y
    by _ = false

abbrev pub votes : Txn → ℕ → Packet → Bool
votes t y p = by p.msg
  where
    by : Message → Bool
    by (msg.Vote u said) = same_txn t u && p.«from» == y && p.to == t.site
    by _ = false

abbrev pub prepares : Txn → ℕ → Packet → Bool
prepares t y p = by p.msg
  where
    by : Message → Bool
    by (msg.Pre u n dir) = same_txn t u && p.to == y
    by _ = false

abbrev pub acks : Txn → ℕ → Packet → Bool
acks t y p = by p.msg
  where
    by : Message → Bool
    by (msg.Ack u n dir) = same_txn t u && p.«from» == y && p.to == t.site
    by _ = false

abbrev pub ends : Txn → ℕ → Packet → Bool
ends t y p = by p.msg
  where
    by : Message → Bool
    by (msg.Decide u dir) = same_txn t u && p.to == y
    by _ = false
