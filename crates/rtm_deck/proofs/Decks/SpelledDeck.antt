-- A deck that is read is spelled by the bytes that it is read from.
use Rattle.std.proofs.Common.{◌≡◌, ℕ, suc, ◌+◌, ◌≤◌, ◌<◌, Bool, true, false, not, ◌&&◌, ◌||◌, List, [], ◌∷◌, length, Option, Some, None, refl, ap, sym, subst, ◌∙◌, inl, inr, arith}
use Rattle.std.specs.Prelude.{IsTrue, Result, Ok, Err, bytes_eq, nat_le, slice_index_or, ◌==◌, if◌then◌else◌}
use Rattle.std.specs.List.{list_any}
use Rattle.std.proofs.lemmas.Bool.{and_from, le-leb, eq-eqb, lt-ltb, cases_lt}
use Rattle.std.proofs.lemmas.List.{length-map}
use Rattle.rtm_cards.specs.declared.fault.CutWhy.{CutWhy}
use Rattle.rtm_cards.specs.declared.fault.CutWhy.TheVariants.{OverLimit}
use Rattle.rtm_cards.specs.Limits.{most_cards, most_programs, most_units, most_commands, most_entries, default_entries}
use Rattle.rtm_cards.specs.Lines.{lines_of, line_at}
use Rattle.rtm_cards.specs.Name.{is_name_field}
use Rattle.rtm_cards.specs.Cards.{CardText, card_of, cards_from}
use Rattle.rtm_cards.specs.Rules.{fault_of, is_ignored}
use Rattle.rtm_cards.specs.Faults.{NoCutFault, HasNoFault}
use Rattle.rtm_cards.proofs.CardForm.{card_form}
use Rattle.rtm_deck_operands.specs.declared.value.Value.{Value}
use Rattle.rtm_deck_operands.specs.Slot.{slots_fit}
use Rattle.rtm_deck_items.specs.declared.deck.Command.{Command as CommandCard}
use Rattle.rtm_deck_items.specs.declared.deck.Unit.{Unit as UnitCard}
use Rattle.rtm_deck_items.specs.declared.form.CardForm.{CardForm}
use Rattle.rtm_deck_items.specs.declared.form.CardForm.TheVariants as forms
use Rattle.rtm_deck_items.specs.Forms.{slots_of}
use Rattle.rtm_deck_items.specs.View.{ProgramView, DeckView}
use Rattle.rtm_deck_items.specs.Reading.{is_task_card}
use Rattle.rtm_deck_items.specs.Items.{Item, Block, ProgramBlock, UnitBlock, items_of}
use Rattle.rtm_deck_items.specs.Spelling.{SpellsDeck, SpellEach, DeckText, programs_in, units_in}
use Rattle.rtm_deck_items.specs.WellFormed.{are_distinct, is_well_formed, keeps_limits, has_distinct_names, has_region, region_cards, program_cards, command_cards, cards_needed}
use Rattle.rtm_deck_spelling.proofs.LaidOut.{lines_then, blocks_then, commands_then_end, closing, opening, laid, laid_out}
use Rattle.rtm_deck_spelling.proofs.NoFormFault.{cut_from_one}
use Rattle.rtm_deck.specs.declared.role.Role.{Role}
use Rattle.rtm_deck.specs.declared.role.Role.TheVariants.{Region}
use Rattle.rtm_deck.specs.inner.View.{ReadView, SeenView, ScanView, Refusal}
use Rattle.rtm_deck.specs.inner.Roles.{role_of}
use Rattle.rtm_deck.specs.inner.Seen.{nothing_seen, after, has_name}
use Rattle.rtm_deck.specs.inner.References.{first_nameless, refusal}
use Rattle.rtm_deck.specs.inner.Operations.{number_at}
use Rattle.rtm_deck.specs.inner.Building.{programs_from, units_from, commands_from, region_from, deck_of}
use Rattle.rtm_deck.specs.inner.Reader.{scan_of, scan, deck_if_named, why_unended, deck_if_ended, deck_or_fault, read_cards}
use Rattle.rtm_deck.proofs.Cards.Names.{eq_refl}
use Rattle.rtm_deck.proofs.Decks.Walk.{Walk, walked}
use Rattle.rtm_deck.proofs.Decks.Operations.{for_shapes, number_least, number_most, Places}
use Rattle.rtm_deck.proofs.Decks.Laid.{items_at, item_at, is_region, Outer, outer}
use Rattle.rtm_deck.proofs.Decks.Counts.{sums, is_task_named, names_of_programs, names_of_units}
use Rattle.rtm_deck.proofs.Decks.Labels.{labels_seen, has_task}
use Rattle.rtm_deck.proofs.Decks.Items.{Fields, fit}
use Rattle.rtm_deck.proofs.Decks.AllCards.{AllGood, all_good, programs_fine}
use Rattle.rtm_deck.proofs.Decks.Places.{Numbers, places}

-- The cards of lines without a fault.

fields_then : (ignored : Bool) (c : CardText) (cs : List CardText) → (ignored ≡ false → IsTrue (is_name_field c.name)) → Fields cs → Fields (if ignored then cs else c ∷ cs)
fields_then true c cs h f = f
fields_then false c cs h f = (h refl, f)

fields_from : (number : ℕ) (lines : List (List ℕ)) → ((k : ℕ) → k < length lines → fault_of (number + k) (slice_index_or lines k []) ≡ None) → Fields (cards_from number lines)
fields_from number [] cut = tt
fields_from number (line ∷ lines) cut =
    let here : fault_of (number + 0) line ≡ None = cut 0 (omega arith) in
    let same : number + 0 ≡ number = omega arith in
    let fine : fault_of number line ≡ None = subst (λ (n : ℕ). fault_of n line ≡ None) same here in
    fields_then (is_ignored line) (card_of number line) (cards_from (number + 1) lines) (λ e. (card_form number line fine e).name)
    (fields_from (number + 1) lines
    (λ k less. let next : number + suc k ≡ (number + 1) + k = omega arith in
    subst (λ (n : ℕ). fault_of n (slice_index_or lines k []) ≡ None) next (cut (suc k) (omega arith))))

fewer_then : (ignored : Bool) (c : CardText) (cs : List CardText) (n : ℕ) → length cs ≤ n → length (if ignored then cs else c ∷ cs) ≤ suc n
fewer_then true c cs n h = omega arith
fewer_then false c cs n h = omega arith

fewer_cards : (number : ℕ) (lines : List (List ℕ)) → length (cards_from number lines) ≤ length lines
fewer_cards number [] = omega arith
fewer_cards number (line ∷ lines) = fewer_then (is_ignored line) (card_of number line) (cards_from (number + 1) lines) (length lines) (fewer_cards (number + 1) lines)

over_is_some : (t : Bool) (o : Option CutWhy) → t ≡ true → (if t then Some OverLimit else o) ≡ None → ⊥
over_is_some true o p q = cc
over_is_some false o p q = cc

within : (number : ℕ) (line : List ℕ) → fault_of number line ≡ None → number ≤ most_cards
unfolding fault_of
within number line e = elim (cases_lt most_cards number) [
  | inl over ↦ absurd (over_is_some _ _ (lt-ltb most_cards number over) e)
  | inr le ↦ le
]

few_lines : (lines : List (List ℕ)) → NoCutFault lines → length lines ≤ most_cards
few_lines [] cut = omega arith
few_lines (line ∷ lines) cut = within (length (line ∷ lines)) (line_at (line ∷ lines) (length (line ∷ lines))) (cut (length (line ∷ lines)) (omega arith) (omega arith))

-- How many cards a deck needs.

lines_count : (lines : List _) (rest : List Item) → length (lines_then lines rest) ≡ length lines + (1 + length rest)
lines_count [] rest = omega arith
lines_count (line ∷ lines) rest = omega (arith, lines_count lines rest)

blocks_count : (blocks : List Block) (rest : List Item) → length (blocks_then blocks rest) ≡ program_cards (programs_in blocks) + length (units_in blocks) + length rest
blocks_count [] rest = omega arith
blocks_count (ProgramBlock p ∷ blocks) rest = omega (arith, lines_count p.lines (blocks_then blocks rest), blocks_count blocks rest)
blocks_count (UnitBlock u ∷ blocks) rest = omega (arith, blocks_count blocks rest)

commands_count : (commands : List CommandCard) → length (commands_then_end commands) ≡ length commands + 1
commands_count [] = omega arith
commands_count (c ∷ cs) = omega (arith, commands_count cs)

closing_count : (oper : Bool) (commands : List CommandCard) → (IsTrue (not oper) → commands ≡ []) → command_cards commands + 1 ≤ length (closing oper commands)
closing_count true [] none = omega arith
closing_count true (c ∷ cs) none = omega (arith, commands_count cs)
closing_count false commands none = rw (none refl) (omega arith)

opening_count : (region : Bool) (limit : ℕ) (sdwa : Bool) (rest : List Item) → (IsTrue (not region) → limit ≡ default_entries) → (IsTrue (not region) → sdwa ≡ true)
    → region_cards limit sdwa + length rest ≤ length (opening region limit sdwa rest)
opening_count true limit sdwa rest default given = go (has_region limit sdwa)
  where
    go : (t : Bool) → (if t then 1 else 0) + length rest ≤ suc (length rest)
    go true = omega arith
    go false = omega arith
opening_count false limit sdwa rest default given = rw (eq-eqb limit default_entries (default refl), given refl) (omega arith)

each_count : (d : DeckView) (cs : List CardText) (items : List Item) → SpellEach d cs items → length cs ≡ length items
each_count d [] items h = rw h refl
each_count d (c ∷ cs) [] h = absurd h
each_count d (c ∷ cs) (item ∷ items) h = ap suc (each_count d cs items h.1)

needed : (region oper : Bool) (blocks : List Block) (d : DeckView) → programs_in blocks ≡ d.programs → units_in blocks ≡ d.units → (IsTrue (not region) → d.limit ≡ default_entries) → (IsTrue (not region) → d.sdwa ≡ true) → (IsTrue (not oper) → d.commands ≡ [])
    → cards_needed d ≤ length (laid region oper blocks d)
needed region oper blocks d p u l g c =
    let a = opening_count region d.limit d.sdwa (blocks_then blocks (closing oper d.commands)) l g in
    let b = blocks_count blocks (closing oper d.commands) in
    let k = closing_count oper d.commands c in
    let pc = ap program_cards p in
    let uc = ap (λ (us : List UnitCard). length us) u in
    omega arith

-- The whole deck laid out.
record Opened (x : SeenView) (rs : List ReadView) : Type 0 where
  region : Bool
  oper : Bool
  blocks : List Block
  items : items_at x rs ≡ opening region (region_from rs).0 (region_from rs).1 (blocks_then blocks (closing oper (commands_from x rs)))
  programs : programs_in blocks ≡ programs_from x rs
  units : units_in blocks ≡ units_from x rs
  limit : IsTrue (not region) → (region_from rs).0 ≡ default_entries
  sdwa : IsTrue (not region) → (region_from rs).1 ≡ true
  commands : IsTrue (not oper) → commands_from x rs ≡ []
  least : IsTrue (nat_le 1 (region_from rs).0)
  most : IsTrue (nat_le (region_from rs).0 most_entries)

region_least : (f : CardForm) (vs : List (Option Value)) → role_of f ≡ Region → IsTrue (slots_fit (slots_of f) vs) → IsTrue (nat_le 1 (number_at vs 0))
region_least forms.Region vs e h = for_shapes (slots_of forms.Region) (λ vs. IsTrue (nat_le 1 (number_at vs 0))) (λ v h w k. number_least 1 most_entries v h) vs h
region_least _ vs e h = absurd cc

region_most : (f : CardForm) (vs : List (Option Value)) → role_of f ≡ Region → IsTrue (slots_fit (slots_of f) vs) → IsTrue (nat_le (number_at vs 0) most_entries)
region_most forms.Region vs e h = for_shapes (slots_of forms.Region) (λ vs. IsTrue (nat_le (number_at vs 0) most_entries)) (λ v h w k. number_most 1 most_entries v h) vs h
region_most _ vs e h = absurd cc

from_outer : (x : SeenView) (rs : List ReadView) → Outer x false rs → Opened x rs
from_outer x rs o =
    let region = o.region in
    record { region = false; oper = o.oper; blocks = o.blocks; items = o.items; programs = o.programs; units = o.units; limit = λ _. ap (λ (r : ℕ × Bool). r.0) region; sdwa = λ _. ap (λ (r : ℕ × Bool). r.1) region; commands = o.commands; least = rw region refl; most = rw region refl }

opened_first : (e : SeenView) (c : CardText) (cs : List CardText) (r : ReadView) (rs : List ReadView) → e.ended ≡ true → Walk nothing_seen (c ∷ cs) (r ∷ rs) e → (b : Bool) → is_region (role_of r.form) ≡ b → (role : Role) → role_of r.form ≡ role → is_region role ≡ b
    → Walk (after nothing_seen role r.name) cs rs e → Opened e (r ∷ rs)
opened_first e c cs r rs n w false t role is k v = from_outer e (r ∷ rs) (outer false nothing_seen e e (c ∷ cs) (r ∷ rs) refl refl refl (inr t) n w)
opened_first e c cs r rs n w true t Region is k v =
    let o = outer false (after nothing_seen Region r.name) e e cs rs refl refl refl (inl refl) n v in
    let items = o.items in let programs = o.programs in let units = o.units in let commands = o.commands in
    let fits = fit r.form c.operands r.values w.0.spells in
    let least = region_least r.form r.values is fits in
    let most = region_most r.form r.values is fits in
    record {
      region = true;
      oper = o.oper;
      blocks = o.blocks;
      items = rw is (ap (λ (ys : List Item). item_at e Region r ∷ ys) items);
      programs = rw is programs;
      units = rw is units;
      limit = λ t. absurd cc;
      sdwa = λ t. absurd cc;
      commands = λ t. rw is (commands t);
      least = rw is least;
      most = rw is most;
    }
opened_first e c cs r rs n w true t _ is k v = absurd cc

opened : (e : SeenView) (cs : List CardText) (rs : List ReadView) → e.ended ≡ true → Walk nothing_seen cs rs e → Opened e rs
opened e [] [] n w = let h = ap (λ (t : SeenView). t.ended) w in absurd cc
opened e (c ∷ cs) [] n w = absurd w
opened e [] (r ∷ rs) n w = absurd w
opened e (c ∷ cs) (r ∷ rs) n w = opened_first e c cs r rs n w (is_region (role_of r.form)) refl (role_of r.form) refl refl w.1

-- a task is among the units
any_task : (name : List ℕ) (us : List UnitCard) → list_any (is_task_named name) us ≡ true → list_any is_task_card us ≡ true
any_task name [] h = absurd cc
any_task name (u ∷ us) h = go (is_task_card u) (bytes_eq name u.name) h (any_task name us)
  where
    go : (a b : Bool) → ((a && b) || list_any (is_task_named name) us) ≡ true → (list_any (is_task_named name) us ≡ true → list_any is_task_card us ≡ true) → (a || list_any is_task_card us) ≡ true
    go true b h more = refl
    go false b h more = more h

task_there : (names : List (List ℕ)) (us : List UnitCard) → (length names == 0) ≡ false → ((name : List ℕ) → has_name names name ≡ true → list_any (is_task_named name) us ≡ true) → list_any is_task_card us ≡ true
task_there [] us e h = absurd cc
task_there (n ∷ ns) us e h = any_task n us (h n (ap (λ (b : Bool). b || has_name ns n) (eq_refl n)))

-- what a walk to the end says
record Spelled (cards : List CardText) (d : DeckView) : Type 0 where
  spelled : SpellsDeck cards d
  well_formed : IsTrue (is_well_formed d)

core : (cards : List CardText) (rs : List ReadView) (e : SeenView) → Walk nothing_seen cards rs e → Fields cards → length cards ≤ most_cards → e.ended ≡ true → first_nameless e [] rs ≡ None → Spelled cards (deck_of (scan_of rs e))
core cards rs e w fields few n h =
    let d : DeckView = deck_of (scan_of rs e) in
    let o = opened e cards rs n w in
    let s = sums nothing_seen e e cards rs w in
    let few_programs : length e.programs ≤ most_programs = s.few_programs (omega arith) in
    let few_units : length e.units ≤ most_units = s.few_units (omega arith) in
    let few_commands : length (commands_from e rs) + 0 ≤ most_commands = s.few_commands (omega arith) in
    let tasks : (name : List ℕ) → has_name e.tasks name ≡ true → list_any (is_task_named name) (units_from e rs) ≡ true = λ name t. sym (s.tasks name) ∙ t in
    let numbers : Numbers e d = record {
      programs = s.programs;
      units = s.units;
      few_programs = omega arith;
      few_units = omega arith;
      distinct = s.distinct_units refl;
      tasks = tasks;
      srbs = λ name t. sym (s.srbs name) ∙ t;
      labels = λ name t. sym (labels_seen false nothing_seen e e name cards rs refl w) ∙ t;
    } in
    let p : Places e d = places e d numbers in
    let all : AllGood e d p cards rs = all_good e d p [] nothing_seen cards rs fields w h in
    let each : SpellEach d cards (items_of o.region o.oper o.blocks d) = subst (λ (items : List Item). SpellEach d cards items) (o.items ∙ sym (laid_out o.region o.oper o.blocks d)) all.each in
    let count : length cards ≡ length (laid o.region o.oper o.blocks d) = each_count d cards (items_of o.region o.oper o.blocks d) each ∙ ap (λ (items : List Item). length items) (laid_out o.region o.oper o.blocks d) in
    let need : cards_needed d ≤ length (laid o.region o.oper o.blocks d) = needed o.region o.oper o.blocks d o.programs o.units o.limit o.sdwa o.commands in
    let program_count : length (names_of_programs d.programs) ≡ length d.programs = length-map d.programs (λ (p : ProgramView). p.name) in
    let unit_count : length (names_of_units d.units) ≡ length d.units = length-map d.units (λ (u : UnitCard). u.name) in
    let program_length : length e.programs ≡ length (names_of_programs d.programs) = ap (λ (ns : List (List ℕ)). length ns) s.programs in
    let unit_length : length e.units ≡ length (names_of_units d.units) = ap (λ (ns : List (List ℕ)). length ns) s.units in
    let programs_most : length d.programs ≤ most_programs = omega (arith, few_programs, program_length, program_count) in
    let units_most : length d.units ≤ most_units = omega (arith, few_units, unit_length, unit_count) in
    let commands_most : length d.commands ≤ most_commands = omega (arith, few_commands) in
    let cards_most : cards_needed d ≤ most_cards = omega (arith, need, count, few) in
    let limits : IsTrue (keeps_limits d) = and_from _ _ (and_from _ _ (and_from _ _ (and_from _ _ (and_from _ _ o.least o.most) (le-leb _ _ programs_most)) (le-leb _ _ units_most)) (le-leb _ _ commands_most)) (le-leb _ _ cards_most) in
    let names : IsTrue (has_distinct_names d) = and_from _ _
    (subst (λ (ns : List (List ℕ)). IsTrue (are_distinct ns)) s.programs (s.distinct_programs refl))
    (subst (λ (ns : List (List ℕ)). IsTrue (are_distinct ns)) s.units (s.distinct_units refl)) in
    let task : IsTrue (list_any is_task_card d.units) = task_there e.tasks d.units (has_task nothing_seen e cards rs w refl n) tasks in
    record {
      spelled = record { region = o.region; oper = o.oper; blocks = o.blocks; programs = o.programs; units = o.units; limit = o.limit; sdwa = o.sdwa; commands = o.commands; each = each };
      well_formed = and_from _ _ (and_from _ _ (and_from _ _ (and_from _ _ (and_from _ _ limits names) task) (programs_fine e d p [] nothing_seen cards rs w h)) all.units) all.commands;
    }

-- What a result that is a deck says.

deck_is : (t : ScanView) (o : Option Refusal) (d : DeckView) → deck_if_named t o ≡ Ok d → (o ≡ None) × (deck_of t ≡ d)
deck_is t (Some r) d h = absurd cc
deck_is t None d h = (refl, cc)

ended_if : (t : ScanView) (b : Bool) (o : Result DeckView Refusal) (r : Refusal) (d : DeckView) → (if b then o else Err r) ≡ Ok d → (b ≡ true) × (o ≡ Ok d)
ended_if t true o r d h = (refl, h)
ended_if t false o r d h = absurd cc

scanned_deck : (cards : List CardText) (lines : ℕ) (d : DeckView) (t : ScanView) → scan [] nothing_seen cards ≡ Ok t → Fields cards → length cards ≤ most_cards → deck_if_ended lines t ≡ Ok d → Spelled cards d
scanned_deck cards lines d t e fields few h =
    let w = walked [] nothing_seen cards t e in
    let end = ended_if t t.seen.ended (deck_if_named t (first_nameless t.seen [] t.reads)) (refusal (lines + 1) (why_unended t.seen)) d h in
    let deck = deck_is t (first_nameless t.seen [] t.reads) d end.1 in
    let reads : t.reads ≡ w.others = w.all in
    let none : first_nameless t.seen [] w.others ≡ None = ap (λ (rs : List ReadView). first_nameless t.seen [] rs) (sym reads) ∙ deck.0 in
    let same : deck_of (scan_of w.others t.seen) ≡ d = ap (λ (rs : List ReadView). deck_of (scan_of rs t.seen)) (sym reads) ∙ deck.1 in
    subst (λ (x : DeckView). Spelled cards x) same (core cards w.others t.seen w.walk fields few end.0 none)

judged_deck : (cards : List CardText) (lines : ℕ) (d : DeckView) (o : Result ScanView Refusal) → scan [] nothing_seen cards ≡ o → Fields cards → length cards ≤ most_cards → deck_or_fault lines None o ≡ Ok d → Spelled cards d
judged_deck cards lines d (Err r) e fields few h = absurd cc
judged_deck cards lines d (Ok t) e fields few h = scanned_deck cards lines d t e fields few h

-- the deck that is read from an input without a fault of cutting is one that the input spells
pub deck_is_spelled : (bytes : List ℕ) (d : DeckView) → HasNoFault bytes → read_cards (cards_from 1 (lines_of bytes)) (length (lines_of bytes)) None ≡ Ok d → DeckText bytes d
deck_is_spelled bytes d cut h =
    let cards = cards_from 1 (lines_of bytes) in
    let few : length cards ≤ most_cards = omega (arith, fewer_cards 1 (lines_of bytes), few_lines (lines_of bytes) cut.cards) in
    let fields = fields_from 1 (lines_of bytes) (cut_from_one (lines_of bytes) cut.cards) in
    let s = judged_deck cards (length (lines_of bytes)) d (scan [] nothing_seen cards) refl fields few h in
    record { cut = cut; spelled = s.spelled; well_formed = s.well_formed }
