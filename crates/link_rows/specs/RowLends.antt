-- What the rows end as, once a `&mut` to a value has ended.
use Rattle.std.specs.Prelude.{ℕ, slice_set}
use Rattle.std.specs.Borrow.{Fml, RattleType, MutBor, Lends}
use Rattle.link_rows.specs.Tables.{Table}
use Rattle.link_rows.specs.contracts.rows.Rows.{the_row}

module _ (R : RattleType) (b : MutBor (Table R.Denot)) where
  -- the value of the row is the last one written through r
  abbrev pub lends_value : ℕ → MutBor R.Denot → Fml
  lends_value i r = Lends (the_row R) R b r (λ w. record { net = b.now.net; values = slice_set b.now.values i w; spare = b.now.spare })
