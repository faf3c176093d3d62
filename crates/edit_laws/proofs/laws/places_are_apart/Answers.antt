use Rattle.edit_words.specs.Rows.{rows, route_of, is_kept}
use Rattle.edit_laws.proofs.PlaceLemmas.{place-apart}
use Rattle.edit_laws.proofs.PlacedIsTree.{Stayed}
use Rattle.edit_laws.proofs.RowLemmas.{rows_apart}
use Rattle.edit_laws.proofs.AskedLemmas.{rows_are}
use Rattle.edit_laws.proofs.laws.places_are_apart.Goals as goal

pub returns : goal.returns
returns c = λ t changes tree asked fine p q stay_p stay_q same. place-apart (Stayed (is_kept (rows changes)) t) (route_of (rows changes)) (rows_apart t (rows changes) tree fine (rows_are t changes asked fine)) p q
    (record { kept = stay_p.0; stands = stay_p.1 }) (record { kept = stay_q.0; stands = stay_q.1 }) same
