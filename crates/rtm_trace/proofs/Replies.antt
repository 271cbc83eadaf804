-- What the reader answers, by what reading gives.
use Rattle.std.proofs.Common.{◌≡◌, ℕ, ◌^◌, ◌<◌, ◌≤◌, List, length, Result, Ok, Err, IfOk, IfErr, refl, ap, sym, ◌∙◌, inl, inr, arith}
use Rattle.std.specs.Prelude.{IsTrue, ◌⊎◌}
use Rattle.std.specs.List.{AllByRecursion}
use Rattle.rtm_deck_items.specs.View.{DeckView}
use Rattle.rtm_deck_items.specs.WellFormed.{is_well_formed}
use Rattle.rtm_model.specs.declared.entry.End.{End}
use Rattle.rtm_model.specs.declared.entry.Entry.{Entry}
use Rattle.rtm_model.specs.Fits.{Fits}
use Rattle.rtm_trace.specs.declared.fault.TraceFault.TheVariants.{Memory, BadLine}
use Rattle.rtm_trace.specs.Text.{line_text, trace_text}
use Rattle.rtm_trace.specs.View.{TraceView, trace_of}
use Rattle.rtm_trace.specs.Lines.{IsTraceOf, IsFirstBadLine, text_lines}
use Rattle.rtm_trace.specs.Answer.{Answered, IsFaultOf, IsThatTrace, IsThatLine, Gives}
use Rattle.rtm_trace.specs.inner.Reading.{read_lines}
use Rattle.rtm_trace.proofs.Shapes.{line_short}
use Rattle.rtm_trace.proofs.TraceLaws.{trace_read, read_trace_of, read_bad_line, bad_line_read, one_trace, same_Ok, same_Err}

module _ (d : DeckView) (w : IsTrue (is_well_formed d)) (bytes : List ℕ) (small : length bytes < 2 ^ 64) where
  pub reply_found : (r : Answered) → Gives r (read_lines d (text_lines bytes)) → IfOk r (λ read. IsTraceOf d bytes (trace_of read))
  reply_found (Ok read) g = read_trace_of d w bytes (trace_of read) g
  reply_found (Err f) g = tt

  pub reply_refused : (r : Answered) → Gives r (read_lines d (text_lines bytes)) → IfErr r (IsFaultOf d bytes)
  reply_refused (Ok read) g = tt
  reply_refused (Err Memory) g = tt
  reply_refused (Err (BadLine line)) g = read_bad_line d w bytes line small g

  pub reply_trace : (r : Answered) → Gives r (read_lines d (text_lines bytes)) → (t : TraceView) → IsTraceOf d bytes t → IsThatTrace t r
  reply_trace (Ok read) g t h = same_Ok (trace_of read) t (sym g ∙ trace_read d w bytes t small h)
  reply_trace (Err Memory) g t h = tt
  reply_trace (Err (BadLine line)) g t h =
      let clash : Err line ≡ Ok t = sym g ∙ trace_read d w bytes t small h in absurd cc

  pub reply_line : (r : Answered) → Gives r (read_lines d (text_lines bytes)) → (line : ℕ) → IsFirstBadLine d bytes line → IsThatLine line r
  reply_line (Ok read) g line h =
      let clash : Ok (trace_of read) ≡ Err line = sym g ∙ bad_line_read d w bytes line small h in absurd cc
  reply_line (Err Memory) g line h = tt
  reply_line (Err (BadLine other)) g line h =
      same_Err other line (sym g ∙ bad_line_read d w bytes line small h)

-- each input is the text of a trace, or has a first bad line
pub trace_or_line : (d : DeckView) (bytes : List ℕ) → IsTrue (is_well_formed d) → length bytes < 2 ^ 64 → ((t : TraceView) × IsTraceOf d bytes t) ⊎ ((line : ℕ) × IsFirstBadLine d bytes line)
trace_or_line d bytes w small = go (read_lines d (text_lines bytes)) refl
  where
    go : (r : Result TraceView ℕ) → read_lines d (text_lines bytes) ≡ r → ((t : TraceView) × IsTraceOf d bytes t) ⊎ ((line : ℕ) × IsFirstBadLine d bytes line)
    go (Ok t) e = inl (t, read_trace_of d w bytes t e)
    go (Err line) e = inr (line, read_bad_line d w bytes line small e)

pub not_both : (d : DeckView) (bytes : List ℕ) (t : TraceView) (line : ℕ) → IsTrue (is_well_formed d) → length bytes < 2 ^ 64 → IsTraceOf d bytes t → IsFirstBadLine d bytes line → ⊥
not_both d bytes t line w small x y =
    let clash : Ok t ≡ Err line = sym (trace_read d w bytes t small x) ∙ bad_line_read d w bytes line small y in absurd cc

-- two traces with one text
pub one_text : (d : DeckView) (a b : List Entry) (end other : End) → IsTrue (is_well_formed d) → AllByRecursion (Fits d) a → AllByRecursion (Fits d) b
    → length (trace_text d a end) < 2 ^ 64 → trace_text d a end ≡ trace_text d b other → (a ≡ b) × (end ≡ other)
one_text d a b end other w x y small e =
    let same = one_trace d w (trace_text d a end) (record { entries = a; end = end }) (record { entries = b; end = other }) small (record { fit = x; text = refl }) (record { fit = y; text = e }) in
    (ap TraceView.entries same, ap TraceView.end same)

pub short_line : (d : DeckView) (n : ℕ) (e : Entry) → IsTrue (is_well_formed d) → n < 4294967296 → Fits d e → length (line_text d n e) ≤ 100
short_line d n e w small h = let few = line_short d w n e (omega (arith, small)) h in omega (arith, few)
