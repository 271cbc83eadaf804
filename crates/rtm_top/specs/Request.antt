-- What the words ask for (this profile).
use Rattle.std.specs.Prelude.{List, [], codes, decimal, ℕ, ◌∷◌, ◌≡◌, ◌≤◌}
use Rattle.rtm_top.specs.declared.request.Request.{Request}
use Rattle.rtm_top.specs.declared.request.Request.TheVariants as requests

-- the words of each request
abbrev pub words_of : Request → List (List ℕ)
words_of requests.Scan = codes "scan" ∷ []
words_of requests.Seq = codes "seq" ∷ []
words_of requests.Run = codes "run" ∷ []
words_of requests.Verify = codes "verify" ∷ []
words_of (requests.Load tasks) = codes "load" ∷ decimal tasks ∷ []

-- a load has 1 to 60 tasks
abbrev pub IsRequest : Request → Type 0
IsRequest (requests.Load tasks) = (1 ≤ tasks) × (tasks ≤ 60)
IsRequest _ = Unit {0}

-- what it does is done with the bytes of the source
abbrev pub Reads : Request → Type 0
Reads (requests.Load tasks) = ⊥
Reads _ = Unit {0}

-- The words are those of no request.
abbrev pub AreUnknown : List (List ℕ) → Type 0
AreUnknown words = (request : Request) → IsRequest request → words ≡ words_of request → ⊥

-- the text is no number from 1 to 60 without leading zeros
abbrev pub IsNoLoad : List ℕ → Type 0
IsNoLoad text = (tasks : ℕ) → 1 ≤ tasks → tasks ≤ 60 → text ≡ decimal tasks → ⊥

-- the request is the load of so many tasks as the text says
abbrev pub IsThatLoad : List ℕ → Request → Type 0
IsThatLoad text (requests.Load tasks) = (1 ≤ tasks) × (tasks ≤ 60) × (text ≡ decimal tasks)
IsThatLoad text _ = ⊥
