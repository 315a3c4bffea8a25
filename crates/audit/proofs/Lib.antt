mod Serving
mod Composing
