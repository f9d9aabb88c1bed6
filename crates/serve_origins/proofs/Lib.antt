mod Splicing
