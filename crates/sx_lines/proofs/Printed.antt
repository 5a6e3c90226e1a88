-- Printing one list of events behind another.
use Rattle.std.proofs.Common.{◌≡◌, ℕ, Bool, List, [], ◌∷◌, ◌++◌, refl, ap, sym, ◌∙◌, append_assoc}
use Rattle.sx_lines.specs.declared.events.Built.{Built}
use Rattle.sx_lines.specs.Print.{printed, is_text_event, print_all, ends_in_text}

-- printed events, one list after another
pub print_all-append : (after_text : Bool) (es fs : List Built) → print_all after_text (es ++ fs) ≡ print_all after_text es ++ print_all (ends_in_text after_text es) fs
print_all-append after_text [] fs = refl
print_all-append after_text (e ∷ es) fs =
    ap (λ (bytes : List ℕ). printed after_text e ++ bytes) (print_all-append (is_text_event e) es fs)
    ∙ sym (append_assoc (printed after_text e) (print_all (is_text_event e) es) (print_all (ends_in_text (is_text_event e) es) fs))

-- whether a text line is unfinished behind one list after another
pub ends_in_text-append : (after_text : Bool) (es fs : List Built) → ends_in_text after_text (es ++ fs) ≡ ends_in_text (ends_in_text after_text es) fs
ends_in_text-append after_text [] fs = refl
ends_in_text-append after_text (e ∷ es) fs = ends_in_text-append (is_text_event e) es fs
