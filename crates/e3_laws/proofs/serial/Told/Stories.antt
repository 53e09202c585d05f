-- What each site told, sent and voted along a sound trail.
use Rattle.std.proofs.Common.{◌≡◌, ◌≢◌, ◌⊎◌, inl, inr, ◌==◌, ◌++◌, ◌∷◌, [], ℕ, zero, suc, ◌≤◌, Bool, true, false, List, Some, length, refl, sym, subst, ap, ◌∙◌}
use Rattle.std.specs.List.{flat_map}
use Rattle.e3_types.specs.declared.entries.Told.TheVariants as told
use Rattle.e3_types.specs.declared.messages.Message.TheVariants as msg
use Rattle.e3_types.specs.declared.messages.Packet.{Packet}
use Rattle.e3_types.specs.declared.records.Record.{Record}
use Rattle.e3_types.specs.declared.records.Record.TheVariants as log
use Rattle.e3_types.specs.declared.transactions.Answer.{Answer}
use Rattle.e3_types.specs.declared.transactions.Key.{Key}
use Rattle.e3_types.specs.declared.transactions.NumOp.{NumOp}
use Rattle.e3_types.specs.declared.transactions.Op.{Op}
use Rattle.e3_types.specs.declared.transactions.Op.TheVariants.{Read}
use Rattle.e3_types.specs.declared.transactions.Txn.{Txn}
use Rattle.e3_types.specs.Sets.{has_site}
use Rattle.e3_world.specs.declared.lives.Asked.{Asked}
use Rattle.e3_world.specs.declared.lives.Life.{Life}
use Rattle.e3_world.specs.declared.lives.Moment.{Moment}
use Rattle.e3_world.specs.Logs.{has_voted, logged_inc, key_of}
use Rattle.e3_world.specs.Operations.{issued, nth_op, arrivals, answer_told, answer_sent, answers, op_told, expected}
use Rattle.e3_laws.proofs.serial.Lists.Entries.{In}
use Rattle.e3_laws.proofs.serial.Step.Arrivals.{answers_push}
use Rattle.e3_laws.proofs.serial.Step.Steadying.{some_inj, arrivals_stay}
use Rattle.e3_laws.specs.serial.Ordered.{seen_by}
use Rattle.e3_world.specs.Lives.{life_at}
use Rattle.e3_world.specs.Moves.{Move, log_by}
use Rattle.e3_world.specs.Sound.{sends, tells, has_risen}
use Rattle.e3_laws.proofs.serial.Told.Telling.{VotersAnswered}
use Rattle.e3_laws.specs.serial.Ordered.{seen_by}
use Rattle.e3_laws.proofs.steps.Operations.Issuing.{nth_more}

-- a life answered the operation, to a read with this answer first
pub record First (site : ℕ) (steps : List Moment) (t : Txn) (n : ℕ) (op : Op) (v : Answer) : Type 0 where
  pub asked : Asked
  pub asked_in : In asked (arrivals site steps)
  pub txn : asked.txn ≡ t
  pub n_is : asked.n ≡ n
  pub op_is : asked.op ≡ op
  pub first : Answer
  pub more : List Answer
  pub answers_are : answers asked steps ≡ first ∷ more
  pub value : (key : Key) → op ≡ Read key → v ≡ first

pub first_more : (site : ℕ) (steps : List Moment) (m : Moment) (t : Txn) (n : ℕ) (op : Op) (v : Answer) → First site steps t n op v → First site (steps ++ m ∷ []) t n op v
first_more site steps m t n op v f = record {
  asked = f.asked;
  asked_in = arrivals_stay site steps m f.asked f.asked_in;
  txn = f.txn;
  n_is = f.n_is;
  op_is = f.op_is;
  first = f.first;
  more = f.more ++ (flat_map (answer_told f.asked) m.told ++ flat_map (answer_sent f.asked) m.outs);
  answers_are = answers_push f.asked steps m ∙ ap (λ l. l ++ (flat_map (answer_told f.asked) m.told ++ flat_map (answer_sent f.asked) m.outs)) f.answers_are;
  value = f.value;
}

-- an answer that a site gave, under an incarnation
pub record Given (iss : Txn → List Op) (site : ℕ) (up : Bool) (life : Life) (t : Txn) (n inc : ℕ) (v : Answer) : Type 0 where
  pub old : inc ≤ life.inc
  pub op : Op
  pub nth : nth_op n (iss t) ≡ Some op
  pub here : (key_of op).site ≡ site
  pub present : up ≡ true → inc ≡ life.inc → First site life.steps t n op v

-- the answers that a site sent, and those to its own transactions on its own keys
pub data Answered (iss : Txn → List Op) (site : ℕ) (mine : List Move) (t : Txn) (n inc : ℕ) (v : Answer) : Type 0 where
  BySent : (p : Packet) → In p (flat_map sends mine) → p.msg ≡ msg.Done t n inc v → Answered iss site mine t n inc v
  ByTold : In (told.Op t n v) (flat_map tells mine) → inc ≡ t.inc → (op : Op) → nth_op n (iss t) ≡ Some op → (key_of op).site ≡ site → Answered iss site mine t n inc v

-- what a site answered under an incarnation is in the vote, to a read with what the vote found
abbrev pub Values : (Txn → List Op) → ℕ → List Move → List Record → Txn → List NumOp → ℕ → Type 0
Values iss site mine before t ops inc = (n : ℕ) (v : Answer) → Answered iss site mine t n inc v →
    (op : Op) × (nth_op n (iss t) ≡ Some op) × In (record { n = n; op = op }) ops × ((key : Key) → op ≡ Read key → v ≡ seen_by before ops n key)

-- why a vote stands: the own commit, or a request of the coordinator
pub data VoteOf (sent : List Packet) (iss : Txn → List Op) (site : ℕ) (mine : List Move) (before : List Record) (t : Txn) (ops : List NumOp) : Type 0 where
  OwnVote : site ≡ t.site → Values iss site mine before t ops t.inc → VoteOf sent iss site mine before t ops
  AskedVote : (p : Packet) (inc count : ℕ) → In p sent → p.msg ≡ msg.VoteReq t inc count → p.to ≡ site → ((site ≡ t.site) → ⊥) →
      (count ≡ 0) ⊎ Values iss site mine before t ops inc → VoteOf sent iss site mine before t ops

-- an answer of another site was sent
pub record Heard_of (sent : List Packet) (site : ℕ) (t : Txn) (n inc : ℕ) (v : Answer) : Type 0 where
  pub packet : Packet
  pub sent_in : In packet sent
  pub source : packet.«from» ≡ site
  pub says : packet.msg ≡ msg.Done t n inc v

-- what a request for a vote says: the coordinator has voted, and told all that it issued; whatever it told of the site was
-- answered there under this incarnation
pub record Request (sent : List Packet) (iss : Txn → List Op) (site : ℕ) (mine : List Move) (p : Packet) (t : Txn) (inc count : ℕ) : Type 0 where
  pub own : t.site ≡ site
  pub other : (p.to == site) ≡ false
  pub voted : has_voted t (log_by mine) ≡ true
  pub all_told : has_risen mine ≡ true → t.inc ≡ (life_at mine).inc → (m : ℕ) → 1 ≤ m → m ≤ length (iss t) → op_told t m (life_at mine).steps ≡ true
  pub heard : (n : ℕ) (v : Answer) (op : Op) → In (told.Op t n v) (flat_map tells mine) → nth_op n (iss t) ≡ Some op → (key_of op).site ≡ p.to →
      Heard_of sent p.to t n inc v × (1 ≤ count)

-- what a site told, sent and voted
pub record Story (sent : List Packet) (iss : Txn → List Op) (site : ℕ) (mine : List Move) : Type 0 where
  pub clock : (life_at mine).inc ≡ logged_inc (log_by mine)
  pub past : (t : Txn) → t.site ≡ site → iss t ≢ [] → t.inc ≤ (life_at mine).inc
  pub now : (t : Txn) → t.site ≡ site → has_risen mine ≡ true → t.inc ≡ (life_at mine).inc → iss t ≡ issued t (life_at mine).steps
  pub member : (t : Txn) (n : ℕ) (op : Op) → t.site ≡ site → nth_op n (iss t) ≡ Some op → has_site t.sites (key_of op).site ≡ true
  pub source : (p : Packet) → In p (flat_map sends mine) → p.«from» ≡ site
  pub does : (p : Packet) (t : Txn) (n : ℕ) (op : Op) → In p (flat_map sends mine) → p.msg ≡ msg.Do t n op → nth_op n (iss t) ≡ Some op
  pub came : (q : Asked) → In q (arrivals site (life_at mine).steps) → nth_op q.n (iss q.txn) ≡ Some q.op
  pub dones : (p : Packet) (t : Txn) (n inc : ℕ) (v : Answer) → In p (flat_map sends mine) → p.msg ≡ msg.Done t n inc v → Given iss site (has_risen mine) (life_at mine) t n inc v
  pub tolds : (t : Txn) (n : ℕ) (v : Answer) → In (told.Op t n v) (flat_map tells mine) →
      (t.site ≡ site) × (op : Op) × (nth_op n (iss t) ≡ Some op) × ((key_of op).site ≡ site → Given iss site (has_risen mine) (life_at mine) t n t.inc v)
  pub voters : VotersAnswered site (log_by mine) (life_at mine).steps
  pub votes : (before after : List Record) (t : Txn) (ops : List NumOp) → log_by mine ≡ before ++ log.Vote t ops ∷ after → VoteOf sent iss site mine before t ops
  pub hears : (t : Txn) (n : ℕ) (v : Answer) (op : Op) → In (told.Op t n v) (flat_map tells mine) → nth_op n (iss t) ≡ Some op → ((key_of op).site ≡ site → ⊥) →
      has_risen mine ≡ true → t.inc ≡ (life_at mine).inc →
      Heard_of sent (key_of op).site t n (expected site (life_at mine).inc t (life_at mine).steps (key_of op).site).inc v
      × (1 ≤ (expected site (life_at mine).inc t (life_at mine).steps (key_of op).site).count)
  pub asks : (p : Packet) (t : Txn) (inc count : ℕ) → In p (flat_map sends mine) → p.msg ≡ msg.VoteReq t inc count → Request sent iss site mine p t inc count

-- lists of operations that go on
abbrev pub GoesOn : (Txn → List Op) → (Txn → List Op) → Type 0
GoesOn iss iss' = (t : Txn) → (rest : List Op) × (iss' t ≡ iss t ++ rest)

pub nth_on : (iss iss' : Txn → List Op) → GoesOn iss iss' → (t : Txn) (n : ℕ) (op : Op) → nth_op n (iss t) ≡ Some op → nth_op n (iss' t) ≡ Some op
nth_on iss iss' on t n op h = ap (nth_op n) (on t).1 ∙ nth_more n (iss t) (on t).0 op h

nth_one : (ops : List Op) (n : ℕ) (a b : Op) → nth_op n ops ≡ Some a → nth_op n ops ≡ Some b → a ≡ b
nth_one ops n a b h k = some_inj a b (sym h ∙ k)

-- the move of another site
module _ (sent sent' : List Packet) (iss iss' : Txn → List Op) (site : ℕ) (mine : List Move) (same : (t : Txn) → t.site ≡ site → iss' t ≡ iss t) (on : GoesOn iss iss')
    (more : (p : Packet) → In p sent → In p sent') (k : Story sent iss site mine) where
  given_on : (t : Txn) (n inc : ℕ) (v : Answer) → Given iss site (has_risen mine) (life_at mine) t n inc v → Given iss' site (has_risen mine) (life_at mine) t n inc v
  given_on t n inc v g = record { old = g.old; op = g.op; nth = nth_on iss iss' on t n g.op g.nth; here = g.here; present = g.present }

  -- an operation that was issued before
  nth_back : (t : Txn) (n : ℕ) (op : Op) → t.site ≡ site → nth_op n (iss' t) ≡ Some op → nth_op n (iss t) ≡ Some op
  nth_back t n op own h = ap (nth_op n) (sym (same t own)) ∙ h

  answered_back : (t : Txn) (n inc : ℕ) (v : Answer) → Answered iss' site mine t n inc v → Answered iss site mine t n inc v
  answered_back t n inc v (BySent p h is) = BySent p h is
  answered_back t n inc v (ByTold h is op nth here) = ByTold h is op (nth_back t n op (k.tolds t n v h).0 nth) here

  values_on : (before : List Record) (t : Txn) (ops : List NumOp) (inc : ℕ) → Values iss site mine before t ops inc → Values iss' site mine before t ops inc
  values_on before t ops inc h n v a = let r = h n v (answered_back t n inc v a) in (r.0, nth_on iss iss' on t n r.0 r.1, r.2, r.3)

  vote_on : (before : List Record) (t : Txn) (ops : List NumOp) → VoteOf sent iss site mine before t ops → VoteOf sent' iss' site mine before t ops
  vote_on before t ops (OwnVote own values) = OwnVote own (values_on before t ops t.inc values)
  vote_on before t ops (AskedVote p inc count h says to other (inl none)) = AskedVote p inc count (more p h) says to other (inl none)
  vote_on before t ops (AskedVote p inc count h says to other (inr values)) = AskedVote p inc count (more p h) says to other (inr (values_on before t ops inc values))

  heard_on : (y : ℕ) (t : Txn) (n inc : ℕ) (v : Answer) → Heard_of sent y t n inc v → Heard_of sent' y t n inc v
  heard_on y t n inc v h = record { packet = h.packet; sent_in = more h.packet h.sent_in; source = h.source; says = h.says }

  pub story_on : Story sent' iss' site mine
  story_on = record {
    clock = k.clock;
    past = λ t own some. k.past t own (λ e. some (same t own ∙ e));
    now = λ t own up inc. same t own ∙ k.now t own up inc;
    member = λ t n op own h. k.member t n op own (nth_back t n op own h);
    source = k.source;
    does = λ p t n op h says. nth_on iss iss' on t n op (k.does p t n op h says);
    came = λ q h. nth_on iss iss' on q.txn q.n q.op (k.came q h);
    dones = λ p t n inc v h says. given_on t n inc v (k.dones p t n inc v h says);
    tolds = λ t n v h. (let r = k.tolds t n v h in (r.0, r.1, nth_on iss iss' on t n r.1 r.2, (λ here. given_on t n t.inc v (r.3 here))));
    voters = k.voters;
    votes = λ before after t ops e. vote_on before t ops (k.votes before after t ops e);
    hears = λ t n v op h nth away up inc. (let r = k.hears t n v op h (nth_back t n op (k.tolds t n v h).0 nth) away up inc in
        (heard_on (key_of op).site t n _ v r.0, r.1));
    asks = λ p t inc count h says. (let r = k.asks p t inc count h says in record {
      own = r.own;
      other = r.other;
      voted = r.voted;
      all_told = λ up now m low high. r.all_told up now m low (subst (λ l. m ≤ length l) (same t r.own) high);
      heard = λ n v op told nth to. (let z = r.heard n v op told (nth_back t n op r.own nth) to in (heard_on p.to t n inc v z.0, z.1));
    });
  }

-- before the first move
pub story_start : (site : ℕ) → Story [] (λ t. []) site []
story_start site = record {
  clock = refl;
  past = λ t own some. absurd (some refl);
  now = λ t own up inc. refl;
  member = λ t n op own h. absurd (none n op h);
  source = λ p h. absurd h;
  does = λ p t n op h says. absurd h;
  came = λ q h. absurd h;
  dones = λ p t n inc v h says. absurd h;
  tolds = λ t n v h. absurd h;
  voters = λ t h q k same. absurd k;
  votes = λ before after t ops e. absurd (empty before after t ops e);
  hears = λ t n v op h nth away up inc. absurd h;
  asks = λ p t inc count h says. absurd h;
}
  where
    none : (n : ℕ) (op : Op) → nth_op n [] ≡ Some op → ⊥
    none zero op h = cc
    none (suc n) op h = cc

    empty : (before after : List Record) (t : Txn) (ops : List NumOp) → [] ≡ before ++ log.Vote t ops ∷ after → ⊥
    empty [] after t ops e = cc
    empty (x ∷ before) after t ops e = cc
