-- What typed patterns show, form by form.
pub mod PatternForms
