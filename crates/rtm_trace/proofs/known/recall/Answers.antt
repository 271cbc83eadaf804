use Rattle.std.proofs.Common.{◌≡◌, List, ℕ, subst, sym}
use Rattle.std.proofs.lemmas.Slice.Eq.{bytes_eq-Decides}
use Rattle.rtm_trace.specs.inner.Known.{IsSaid}
use Rattle.rtm_trace.proofs.Remembered.{known_at}
use Rattle.rtm_trace.proofs.known.recall.Goals as goal

pub returns-then-eq : goal.returns-then-eq
returns-then-eq c = λ d all.
    let known = c.in_ok-known.known in
    let same : known.bytes.now ≡ c.args.bytes.now = (bytes_eq-Decides known.bytes.now c.args.bytes.now).0 (sym c.if-eq.ensures) in
    subst (λ (bytes : List ℕ). IsSaid d bytes known.what) same (known_at d c.args.places.now c.args.place known all c.in_ok-known.was)
