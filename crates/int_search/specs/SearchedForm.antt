-- An integer form as the search reads it.
use Rattle.integer_form.specs.declared.form.Form.{Form}
use Rattle.integer_form.specs.Forms.{integers_of, columns_of, factors_of}
use Rattle.int_search.specs.Suffixes.{SearchForm}

abbrev pub search_form : Form → SearchForm
search_form f = record { size = integers_of f; factors = factors_of f; g = f.g; p = columns_of f }
