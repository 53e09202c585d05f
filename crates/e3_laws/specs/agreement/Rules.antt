-- The moves of the protocol for one transaction: when a site may write a note, and when it may send a word.
use Rattle.std.specs.Prelude.{◌≡◌, ◌≢◌, ◌<◌, ◌≤◌, ◌⊎◌, ◌∷◌, [], ℕ, Bool, true, List, map}
use Rattle.e3_types.specs.declared.transactions.Dir.{Dir}
use Rattle.e3_types.specs.declared.transactions.Dir.TheVariants.{Abort, Commit}
use Rattle.e3_laws.specs.agreement.Logs.{IsIn, Note, Vote, Join, Attempt, Decision, Status, Idle, Waiting, Prepared, Final, elected, attempt, status, before_join, Undecided}

-- who takes part: the sites, the coordinator, and which lists of sites are a quorum
pub record Party : Type 0 where
  pub members : List ℕ
  pub coordinator : ℕ
  pub quorum : List ℕ → Bool

-- any two quorums share a site, so none is empty
abbrev pub Overlaps : Party → Type 0
Overlaps g =
    (these those : List ℕ) → g.quorum these ≡ true → g.quorum those ≡ true → (y : ℕ) × IsIn y these × IsIn y those

-- What a site says to another of the transaction: its vote, or that it aborted; the number of an election; a report of
-- how it stood when it joined, with its last attempt; a direction to attempt under a number, and that it attempted it; a
-- decision; or something else, on which the protocol asks nothing.
pub data Word : Type 0 where
  Yes : Word
  No : Word
  Elected : ℕ → Word
  Report : ℕ → Status → ℕ → Word
  Pre : ℕ → Dir → Word
  Ack : ℕ → Dir → Word
  Decide : Dir → Word
  Other : Word

-- a word on its way
pub record Letter : Type 0 where
  pub source : ℕ
  pub target : ℕ
  pub word : Word

-- the letter of a word
abbrev pub letter : ℕ → ℕ → Word → Letter
letter x y w = record { source = x; target = y; word = w }

-- the notes of each site, the newest first, and the letters sent, which may come at any time and any number of times
pub record Situation : Type 0 where
  pub log : ℕ → List Note
  pub sent : List Letter

-- y has sent the word to x
abbrev pub Came : List Letter → ℕ → ℕ → Word → Type 0
Came sent y x w = IsIn (letter y x w) sent

-- what a site said of itself in an election
pub record Reply : Type 0 where
  pub site : ℕ
  pub stood : Status
  pub tried : ℕ

-- what the site x says of itself in its own election n: how it stood when it joined
abbrev pub own_reply : List Note → ℕ → ℕ → Reply
own_reply l x n = record { site = x; stood = status (before_join n l); tried = attempt (before_join n l) }

-- the reply was made in the election n of x: by a report, or by x itself
abbrev pub Replied : List Letter → List Note → ℕ → ℕ → Reply → Type 0
Replied sent l x n r = Came sent r.site x (Report n r.stood r.tried) ⊎ (r ≡ own_reply l x n)

-- the sites that replied
abbrev pub repliers : List Reply → List ℕ
repliers replies = map (λ r. r.site) replies

-- how a site with the greatest attempt stands asks for the direction
abbrev pub AsksFor : Status → Dir → Type 0
AsksFor Idle d = d ≡ Abort
AsksFor Waiting d = d ≡ Abort
AsksFor (Prepared e) d = d ≡ e
AsksFor (Final e) d = ⊥

-- x leads the election n to the direction: a quorum replied, and one with the greatest attempt asks for it
pub record Leads (g : Party) (sent : List Letter) (l : List Note) (x n : ℕ) (d : Dir) : Type 0 where
  pub joined : IsIn (Join n x) l
  pub replies : List Reply
  pub enough : g.quorum (repliers replies) ≡ true
  pub replied : (r : Reply) → IsIn r replies → Replied sent l x n r
  pub top : Reply
  pub top_in : IsIn top replies
  pub greatest : (r : Reply) → IsIn r replies → r.tried ≤ top.tried
  pub asks : AsksFor top.stood d

-- x is the coordinator, which voted, and every other site said yes
pub record HasAllVotes (g : Party) (sent : List Letter) (l : List Note) (x n : ℕ) (d : Dir) : Type 0 where
  pub here : x ≡ g.coordinator
  pub one : n ≡ 1
  pub commits : d ≡ Commit
  pub waits : status l ≡ Waiting
  pub votes : (y : ℕ) → IsIn y g.members → y ≢ x → Came sent y x Yes

-- a site asked x for the attempt
pub record Accepts (g : Party) (sent : List Letter) (x n : ℕ) (d : Dir) : Type 0 where
  pub member : IsIn x g.members
  pub asker : ℕ
  pub came : Came sent asker x (Pre n d)

-- why a site attempts
abbrev pub MovesOn : Party → List Letter → List Note → ℕ → ℕ → Dir → Type 0
MovesOn g sent l x n d = HasAllVotes g sent l x n d ⊎ (Leads g sent l x n d ⊎ Accepts g sent x n d)

-- an undecided site may attempt the number that it joined last, once, for such a reason
pub record MayAttempt (g : Party) (sent : List Letter) (l : List Note) (x n : ℕ) (d : Dir) : Type 0 where
  pub open_yet : Undecided l
  pub current : n ≡ elected l
  pub fresh : attempt l < n
  pub cause : MovesOn g sent l x n d

-- a quorum has made one attempt, as x knows: by its own, and by acknowledgements
pub record Wins (g : Party) (sent : List Letter) (l : List Note) (x : ℕ) (d : Dir) : Type 0 where
  pub number : ℕ
  pub group : List ℕ
  pub enough : g.quorum group ≡ true
  pub acks : (y : ℕ) → IsIn y group → ((y ≡ x) × IsIn (Attempt number d) l) ⊎ Came sent y x (Ack number d)

-- why a site decides: it refuses its vote; it is the coordinator and has attempted nothing; a quorum attempted; another
-- site said that it decided
pub data Cause (g : Party) (sent : List Letter) (l : List Note) (x : ℕ) (d : Dir) : Type 0 where
  Refuses : IsIn x g.members → d ≡ Abort → status l ≡ Idle → Cause g sent l x d
  CallsOff : x ≡ g.coordinator → d ≡ Abort → attempt l ≡ 0 → Cause g sent l x d
  HasWon : Wins g sent l x d → Cause g sent l x d
  IsTold : (y : ℕ) → Came sent y x (Decide d) → Cause g sent l x d
  IsReported : (y n a : ℕ) → Came sent y x (Report n (Final d) a) → Cause g sent l x d

-- an undecided site may decide for such a cause; it commits only behind its vote
pub record MayDecide (g : Party) (sent : List Letter) (l : List Note) (x : ℕ) (d : Dir) : Type 0 where
  pub open_yet : Undecided l
  pub voted : d ≡ Commit → IsIn Vote l
  pub cause : Cause g sent l x d

-- a site may join a greater number, of an election that it leads, or for the leader that said so
pub record MayJoin (sent : List Letter) (l : List Note) (x n e : ℕ) : Type 0 where
  pub greater : elected l < n
  pub leader : (e ≡ x) ⊎ Came sent e x (Elected n)

-- x, with these notes and these letters sent, may write the note; it votes where it joined no election
abbrev pub MayWrite : Party → List Letter → List Note → ℕ → Note → Type 0
MayWrite g sent l x Vote = (status l ≡ Idle) × (elected l ≡ 1)
MayWrite g sent l x (Join n e) = MayJoin sent l x n e
MayWrite g sent l x (Attempt n d) = MayAttempt g sent l x n d
MayWrite g sent l x (Decision d) = MayDecide g sent l x d

-- in a situation
abbrev pub MayRecord : Party → Situation → ℕ → Note → Type 0
MayRecord g s x r = MayWrite g s.sent (s.log x) x r

-- the site joined n for y, and this is how it stood then
pub record MayReport (l : List Note) (y n : ℕ) (st : Status) (a : ℕ) : Type 0 where
  pub joined : IsIn (Join n y) l
  pub says : st ≡ status (before_join n l)
  pub tried : a ≡ attempt (before_join n l)

-- the site was asked by y for this attempt, and made one of this number
pub record MayAcknowledge (sent : List Letter) (l : List Note) (x y n : ℕ) (d : Dir) : Type 0 where
  pub came : Came sent y x (Pre n d)
  pub made : Dir
  pub stands : IsIn (Attempt n made) l

-- x, with these notes and these letters sent, may say the word to y
abbrev pub MaySay : List Letter → List Note → ℕ → ℕ → Word → Type 0
MaySay sent l x y Yes = IsIn Vote l
MaySay sent l x y No = IsIn (Decision Abort) l
MaySay sent l x y (Elected n) = IsIn (Join n x) l
MaySay sent l x y (Report n st a) = MayReport l y n st a
MaySay sent l x y (Pre n d) = IsIn (Attempt n d) l
MaySay sent l x y (Ack n d) = MayAcknowledge sent l x y n d
MaySay sent l x y (Decide d) = IsIn (Decision d) l
MaySay sent l x y Other = Unit {0}

-- in a situation
abbrev pub MaySend : Situation → ℕ → ℕ → Word → Type 0
MaySend s x y w = MaySay s.sent (s.log x) x y w

-- one note more at x; letters may be lost
pub record Adds (x : ℕ) (r : Note) (before after : Situation) : Type 0 where
  pub here : after.log x ≡ r ∷ before.log x
  pub elsewhere : (y : ℕ) → y ≢ x → after.log y ≡ before.log y
  pub sent : (p : Letter) → IsIn p after.sent → IsIn p before.sent

-- letters more, each of which might be sent; letters may be lost
pub record Sends (before after : Situation) : Type 0 where
  pub logs : (y : ℕ) → after.log y ≡ before.log y
  pub sent : (p : Letter) → IsIn p after.sent → IsIn p before.sent ⊎ MaySend before p.source p.target p.word

-- a move of the protocol: a site writes a note that it may write, or letters are sent
pub data Moves (g : Party) (before after : Situation) : Type 0 where
  Writes : (x : ℕ) (r : Note) → MayRecord g before x r → Adds x r before after → Moves g before after
  Talks : Sends before after → Moves g before after

-- the situation can come about: by moves, from logs without a note and no letter
pub data Reachable (g : Party) : Situation → Type 0 where
  Start : {s : Situation} → ((x : ℕ) → s.log x ≡ []) → s.sent ≡ [] → Reachable g s
  Step : {before after : Situation} → Reachable g before → Moves g before after → Reachable g after
