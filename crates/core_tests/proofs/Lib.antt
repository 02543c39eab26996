-- Lemmas for the tests.
mod Numbers
