-- Plans with no task and no processor.
use Rattle.std.specs.Prelude.{ℕ, Bool, cond, ◌&&◌, length, ◌==◌}
use Rattle.tables.specs.Rows.{Listing}
use Rattle.analysis.specs.Seats.{Seats, lawful}

-- nothing is seated, for there is nothing to seat
abbrev pub nothing : Listing → Seats → Bool
nothing t s =
    (length t.resources == 0 && length t.tasks == 0) && (length s.resources == 0 && length s.tasks == 0)

-- with no processor a plan is empty, with some its seating is lawful
abbrev pub empty_or_lawful : ℕ → ℕ → Listing → Seats → Bool
empty_or_lawful m q t s = cond (m == 0) (q == 0 && nothing t s) (lawful m q t s)
