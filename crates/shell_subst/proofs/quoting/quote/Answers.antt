use Rattle.std.proofs.Common.{◌≡◌, ◌∷◌, ◌++◌, [], true, false, sym, ap, ◌∙◌, flat_map}
use Rattle.std.specs.List.{list_all}
use Rattle.std.specs.String.{string_bytes}
use Rattle.shell_subst.specs.Quoting.{is_plain, quote_mark, within_quotes}
use Rattle.shell_subst.proofs.QuoteLemmas.{quoted-plain, quoted-within}
use Rattle.shell_subst.proofs.quoting.quote.Goals as goal
use Rattle.shell_subst.proofs.quoting.quote.Goals.{then-is_plain_text+in_ok-push_str+in_ok-push_str-2, else-is_plain_text+in_ok-push_str-3+in_ok-push_str-4+in_ok-push_within_quotes+in_ok-push_str-5}

pub returns : goal.returns
returns c =
    let name = c.args.name.now in
    elim c.if-is_plain_text.branch [
      | then-is_plain_text+in_ok-push_str+in_ok-push_str-2 w ↦
          let front = w.front_of.result.now in
          let plain : list_all is_plain name ≡ true = sym w.if-is_plain_text.ensures in
          let begun : string_bytes w.push_str.new.self ≡ front = w.in_ok-push_str.ensures.bytes ∙ ap (λ l. l ++ front) c.new-word.ensures.bytes in
          c.from_string.ensures ∙ ap string_bytes w.word-is ∙ w.in_ok-push_str-2.ensures.bytes ∙ ap (λ l. l ++ name) begun
          ∙ sym (quoted-plain front name w.front_of.ensures.is w.front_of.ensures.front plain)
      | else-is_plain_text+in_ok-push_str-3+in_ok-push_str-4+in_ok-push_within_quotes+in_ok-push_str-5 w ↦
          let front = w.front_of-else-is_plain_text.result.now in
          let other : list_all is_plain name ≡ false = sym w.if-is_plain_text.ensures in
          let open_mark : string_bytes w.push_str-else-is_plain_text.new.self ≡ quote_mark ∷ [] = w.in_ok-push_str-3.ensures.bytes ∙ ap (λ l. l ++ quote_mark ∷ []) c.new-word.ensures.bytes in
          let begun : string_bytes w.push_str-else-is_plain_text-2.new.self ≡ quote_mark ∷ front = w.in_ok-push_str-4.ensures.bytes ∙ ap (λ l. l ++ front) open_mark in
          let inside : string_bytes w.push_within_quotes.new.word ≡ quote_mark ∷ front ++ flat_map within_quotes name = w.in_ok-push_within_quotes.ensures ∙ ap (λ l. l ++ flat_map within_quotes name) begun in
          c.from_string.ensures ∙ ap string_bytes w.word-is ∙ w.in_ok-push_str-5.ensures.bytes ∙ ap (λ l. l ++ quote_mark ∷ []) inside
          ∙ sym (quoted-within front name w.front_of-else-is_plain_text.ensures.is w.front_of-else-is_plain_text.ensures.front other)
    ]
