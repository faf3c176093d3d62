-- Whether something is pending.
use Rattle.std.specs.Prelude.{ℕ, nat_lt, List, codes, if◌then◌else◌}

-- by the number of the images that a crash may leave, two of each
abbrev pub pending_text : ℕ → List ℕ
pending_text images = if nat_lt 2 images then codes "pending\n" else codes "durable\n"
