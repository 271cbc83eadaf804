-- The deck of the word `load` as it is written, card by card (this profile).
use Rattle.std.specs.Prelude.{ℕ, List, [], ◌∷◌, ◌++◌, map, codes}
use Rattle.std.specs.List.{flat_map}
use Rattle.rtm_cards.specs.Spelling.{line_with_feed}
use Rattle.rtm_deck_operands.specs.Numeral.{decimal_of}
use Rattle.rtm_deck_load.specs.Counts.{one_to, routines}

-- a card with a decimal number between two texts
abbrev pub numbered_card : List ℕ → List ℕ → ℕ → List ℕ
numbered_card front back number = front ++ decimal_of number ++ back

-- MAIN: a card for each task that it attaches, and one for each that it waits for
abbrev pub attach_card : ℕ → List ℕ
attach_card i = numbered_card (codes " ATTACHX T") (codes ",ESTAI=WATCH") i

abbrev pub wait_card : ℕ → List ℕ
wait_card i = numbered_card (codes " WAITT T") [] i

abbrev pub main_cards : ℕ → List (List ℕ)
main_cards n =
    codes "MAIN PROG" ∷
    codes " GET ENQ,0" ∷
    map attach_card (one_to n) ++
    map wait_card (one_to n) ++
    codes " PEND" ∷
    []

-- WORK: three cards for each routine
abbrev pub round_cards : ℕ → List (List ℕ)
round_cards k =
    numbered_card (codes " ESTAEX CT,PGM=KEEP") [] k ∷
    codes " LINK SUB" ∷
    numbered_card (codes "BACK") (codes " NOP") k ∷
    []

abbrev pub work_cards : List (List ℕ)
work_cards =
    codes "WORK PROG" ∷
    codes " GET STOR,1" ∷
    flat_map round_cards (one_to routines) ++
    codes " ABEND U2" ∷
    codes " PEND" ∷
    []

-- SUB
abbrev pub sub_cards : List (List ℕ)
sub_cards =
    codes "SUB PROG" ∷
    codes " GET DSN,2" ∷
    codes " SETFRR A,PGM=PASS" ∷
    codes " ABEND S0C4" ∷
    codes " PEND" ∷
    []

-- a routine that retries
abbrev pub keep_cards : ℕ → List (List ℕ)
keep_cards k =
    numbered_card (codes "KEEP") (codes " PROG") k ∷
    numbered_card (codes " SETRP RC=4,RETADDR=BACK") (codes ",REMREC=YES") k ∷
    codes " PEND" ∷
    []

-- PASS and WATCH
abbrev pub empty_cards : List (List ℕ)
empty_cards = codes "PASS PROG" ∷ codes " PEND" ∷ codes "WATCH PROG" ∷ codes " PEND" ∷ []

-- JOB, and each task
abbrev pub worker_card : ℕ → List ℕ
worker_card i = numbered_card (codes "T") (codes " TASK PGM=WORK") i

abbrev pub unit_cards : ℕ → List (List ℕ)
unit_cards n = codes "JOB TASK PGM=MAIN" ∷ map worker_card (one_to n)

-- all cards of the deck, in order
abbrev pub load_cards : ℕ → List (List ℕ)
load_cards n =
    codes " REGION LIMIT=100000" ∷
    main_cards n ++
    work_cards ++
    sub_cards ++
    flat_map keep_cards (one_to routines) ++
    empty_cards ++
    unit_cards n ++
    codes " END" ∷
    []

-- the text: each card with its line feed
unfoldable pub load_text : ℕ → List ℕ
load_text n = flat_map line_with_feed (load_cards n)
